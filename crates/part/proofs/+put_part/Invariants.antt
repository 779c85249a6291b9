-- `part::put_part` meets its contract: the parts of a cluster have lower numbers, so the cluster's own is the measure. Assumes nothing.
use Rattle.part.proofs.+put_part.Given as goal

abbrev pub decreases-put_part : goal.decreases-put_part
decreases-put_part l = l.c
