-- `presets::tabulate` meets its contract. Assumes nothing.
use Rattle.std.proofs.Common.{rules}
use borrow.Author.Tests.{tests}
use Rattle.limits.specs.Limits.{table_bytes}
use Rattle.theory.specs.Tables.{table_of}
use Rattle.tables.proofs.Bytes.{byte_of}
use Rattle.tables.proofs.Chains.{made}
use Rattle.presets.specs.Presets.{on_window}
use Rattle.presets.proofs.Nearest.{table_byte}
use Rattle.presets.proofs.tabulate.Goals as goal

pub returns : goal.returns
unfolding table_of
returns c =
    made _ _ _ table_bytes (byte_of (on_window c.args.small))
    (λ k y q l r. rw (table_byte c.args.small k) (search (rules, tests))) c.from_fn.ensures.items
