-- `tables::byte_of` meets its contract. Assumes nothing.
use Rattle.std.proofs.Common.{rules, ◌∙◌, ◌+◌, ◌*◌}
use borrow.Author.Tests.{tests}
use Rattle.limits.specs.Limits.{byte_bits}
use Rattle.theory.specs.Forms.{holds}
use Rattle.tables.proofs.Chains.{made_byte}
use Rattle.tables.proofs.byte_of.Goals as goal

pub returns : goal.returns
returns c =
    c.byte.ensures
    ∙ made_byte _ _ _ (λ i. holds c.args.terms.now (byte_bits * c.args.j + i)) (λ k y q l r. search (rules, tests)) c.from_fn.ensures.items
