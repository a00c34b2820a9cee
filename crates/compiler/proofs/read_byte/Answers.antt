-- `compiler::read_byte` meets its contract. Assumes nothing.
use Rattle.std.proofs.Common.{rules, ◌∙◌, ◌+◌, ◌*◌}
use borrow.Author.Tests.{tests}
use Rattle.limits.specs.Limits.{byte_bits}
use Rattle.compiler.specs.Private.{middle_of}
use Rattle.tables.proofs.Chains.{made_byte}
use Rattle.compiler.proofs.read_byte.Goals as goal

pub returns : goal.returns
unfolding middle_of
returns c =
    c.byte.ensures
    ∙ made_byte _ _ _ (λ i. middle_of c.args.out.now (byte_bits * c.args.j + i)) (λ k y q l r. search (rules, tests)) c.from_fn.ensures.items
