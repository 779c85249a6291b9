-- Each branch is one law of `constraint_in`: a list that ends before the place, or all that the map rules.
use Rattle.theory.specs.Prelude.{rules, sym, ap, ◌∙◌, get_or}
use mir.Syntax.{w32}
use mir.Facts.{to_z-of_z}
use Rattle.pattern_c.specs.Columns.{constraint_from}
use Rattle.pattern_c.specs.Columns.Laws.{short-firsts, short-seconds, short-maps, short-sizes, without-size, with_size}
use Rattle.pattern_c.proofs.constraint_at.Goals as goal

pub returns-then-firsts-i : goal.returns-then-firsts-i
returns-then-firsts-i c = let a = c.args in
    c.blank.ensures ∙ sym (short-firsts a.firsts.now a.seconds.now a.maps.now a.sizes.now a.i (search rules))

pub returns-then-seconds-i : goal.returns-then-seconds-i
returns-then-seconds-i c = let a = c.args in
    c.blank-then-seconds-i.ensures ∙ sym (short-seconds a.firsts.now a.seconds.now a.maps.now a.sizes.now a.i (search rules) (search rules))

pub returns-then-maps-i : goal.returns-then-maps-i
returns-then-maps-i c = let a = c.args in
    c.blank-then-maps-i.ensures ∙ sym (short-maps a.firsts.now a.seconds.now a.maps.now a.sizes.now a.i (search rules) (search rules)
    (search rules))

pub returns-then-map-eq0 : goal.returns-then-map-eq0
returns-then-map-eq0 c = let a = c.args in
    c.constraint_from.ensures
    ∙ ap (constraint_from (get_or a.firsts.now a.i 0) (get_or a.seconds.now a.i 0) (get_or a.maps.now a.i 0))
    (to_z-of_z {w = w32} (record { sfits = c.size_at-size.type_inv }) ∙ c.size_at-size.ensures)
    ∙ sym (without-size a.firsts.now a.seconds.now a.maps.now a.sizes.now a.i (search rules) (search rules) (search rules)
    c.if-map-eq0.true)

pub returns-then-sizes-i : goal.returns-then-sizes-i
returns-then-sizes-i c = let a = c.args in
    c.blank-then-sizes-i.ensures ∙ sym (short-sizes a.firsts.now a.seconds.now a.maps.now a.sizes.now a.i (search rules) (search rules)
    (search rules) c.if-map-eq0.false (search rules))

pub returns : goal.returns
returns c = let a = c.args in
    c.constraint_from-2.ensures
    ∙ ap (constraint_from (get_or a.firsts.now a.i 0) (get_or a.seconds.now a.i 0) (get_or a.maps.now a.i 0))
    (to_z-of_z {w = w32} (record { sfits = c.size_at-size.type_inv }) ∙ c.size_at-size.ensures)
    ∙ sym (with_size a.firsts.now a.seconds.now a.maps.now a.sizes.now a.i (search rules) (search rules) (search rules)
    c.if-map-eq0.false (search rules))
