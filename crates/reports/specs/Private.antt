-- Only private contracts cite this: counts with one sample more.
use Rattle.std.specs.Prelude.{ℕ, ◌+◌, ◌<◌, ◌&&◌, not, eqb, ℤ}
use Rattle.theory.specs.Lists.{bit}
use Rattle.reports.specs.declared.Counts.{Counts}
use Rattle.reports.specs.Counts.{is_change, kind_of, above, below}

-- counts with one residue more, behind one of a sign; the number of samples is not counted so
abbrev pub with_residue : ℤ → ℤ → Counts → Counts
with_residue before r c = record {
  samples = c.samples;
  changed = c.changed + bit (is_change r);
  spikes = c.spikes + bit (not (eqb (kind_of r) 0) && not (eqb (kind_of r) (kind_of before)));
  up = c.up + above r;
  down = c.down + below r;
}

-- each count that is added to is below m
pub record IsBelow (m : ℕ) (c : Counts) : Type 0 where
  pub changed : c.changed < m
  pub spikes : c.spikes < m
  pub up : c.up < m
  pub down : c.down < m
