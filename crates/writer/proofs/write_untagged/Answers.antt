-- `writer::write_untagged` meets its contract: no byte is added. Assumes nothing.
use Rattle.theory.specs.Prelude.{rules}
use Rattle.sheet.specs.WithoutTags.{without_tags}
use Rattle.writer.proofs.Untagged.{without_tags-length}
use Rattle.writer.proofs.write_untagged.Goals as goal

pub returns : goal.returns
returns c = c.put_whole.ensures (without_tags c.args.s.now) (without_tags-length c.args.s.now) (λ p r q met. search rules)
