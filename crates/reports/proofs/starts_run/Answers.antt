-- `reports::starts_run` meets its contract: two signs are one where their kinds are. Assumes nothing.
use Rattle.std.proofs.Common.{ap, not, ◌∙◌, ne_eqb}
use Rattle.reports.proofs.Residues.{sign_none, signs_kinds}
use Rattle.reports.proofs.starts_run.Goals as goal

pub returns-then-sign-ne0 : goal.returns-then-sign-ne0
returns-then-sign-ne0 c =
    ap not (signs_kinds _ _ c.requires.0 c.requires.1)
    ∙ rw (← sign_none _ c.requires.0, ne_eqb _ _ c.if-sign-ne0.true)

pub returns-else-sign-ne0 : goal.returns-else-sign-ne0
returns-else-sign-ne0 c = rw (← sign_none _ c.requires.0, c.if-sign-ne0.false)
