-- The names of the libraries that laws and proofs use, passed on, so that a file brings them in one line. Definitions
-- that the entry points' contracts reach name their libraries themselves. Assumes nothing.
pub use Rattle.std.specs.Prelude.{◌≡◌, refl, ◌≢◌, ◌⊎◌, ◌↔◌, true, false, Bool, ◌&&◌, cond, ◌||◌, not, List, [], ◌∷◌, ◌++◌, map, ℕ, ◌≤◌, ◌<◌, ◌+◌, ◌-◌, suc, zero, ◌*◌, ◌^◌, ◌%◌, ◌/◌, min, max, eqb, T, ltb, leb, ℤ, pos, negsuc, nat_abs, ◌-ℤ◌, neg_ℤ, ◌+ℤ◌, length, get_or, take, drop, set, replicate}
pub use Rattle.std.proofs.Common.{sym, ◌∙◌, ap, subst, ap₂, inl, inr, ⊎_elim, append_assoc, append-nil, le_refl, le_of_suc-le-suc, one-mul, lt-suc_self, zero-add, add-zero, zero-lt-suc, le_trans, mod-eq_of_lt, not-suc-le-zero, eq-or-lt_of_le, lt_of_lt_of_le, ne_of_lt, add-suc, le_antisymm, lt_trans, mul-add, mul-suc, mul-zero, suc-add, suc-mul, add-one, arith, eqb→eq, leb→le, T_not, le→leb, ltb→lt, lit<, lt→ltb, pow_pos, pow_mono, shl_exact, pow-add, length-set, length-append, length-take, drop_of_length-le, length-drop, take-append-drop, get_or-set_other, get_or-set_same, take-suc, length-take-le, drop-cons, get_or-take, take_all, take-suc-set, drop-drop, drop_at, take_at, get_or-drop, drop-set-lt, ext_get_or, get_or-append-add, take-take, rules, ne_eqb, eq-eqb, lt-ltb, le-ltb, ltb-true, le-leb, leb-true, eqb-true, ltb-false, leb-false}
pub use Rattle.std.proofs.Math.Logic.{Ne-symm, Iff.trans as Iff-trans, Iff.rfl as Iff-rfl, Iff.symm as Iff-symm}
pub use Rattle.std.proofs.Math.Bool.{or_assoc, or-false}
pub use Rattle.std.proofs.Math.Option.{none, Option, some}
pub use Rattle.std.proofs.lemmas.List.{map-append, length-map, length-replicate, get_or-replicate}
pub use Rattle.std.proofs.Math.Nat.{pow-succ', pow-zero, pow-le-pow_right, le_step, sub-zero}
pub use Rattle.std.proofs.Math.Decide.{ℕ_discrete, dec_lt, dec_le}
pub use Rattle.std.proofs.Math.Dec.{eqb_refl, not_T}
pub use Rattle.std.proofs.Math.Pow.{pow-lt}
pub use Rattle.std.specs.Int.Bits.{bit_and, bit_or, and_step, bit_xor, and_self}
pub use Rattle.std.proofs.lemmas.Nat.{and_le_r, and_le_l, or_lt, trailing_le, ones-le}
unfoldable pub use Rattle.std.specs.Int.Count.{ones, count_trailing_zeros}
pub use Rattle.std.specs.Int.Count.{under, ones_step}
pub use Rattle.std.proofs.Math.ListN.{get_or-eq_default as List·getD-eq-default, get_or-append as List·getD-append, get_or-map as List·getD-map}
pub use Rattle.std.proofs.lemmas.List.Edits.{sets}
pub use Rattle.std.proofs.Math.Seq.{drop-length, take-append_seam, take-length, set-append_seam}
pub use Rattle.std.proofs.lemmas.Bool.{not-true, not-false, lt-leb, eqb-false}
pub use Rattle.std.proofs.Math.Arith.{bin_ind}
pub use Rattle.std.specs.Int.Signed.{lt_z, mag, non_neg}
