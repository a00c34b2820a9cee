-- `tables::Steady::check` meets its contract. Assumes nothing.
use Rattle.std.proofs.Common.{rules, ◌≡◌, true, false, refl, Some, None}
use Rattle.std.proofs.lemmas.Iterator.{first_from_Range}
use borrow.Author.Tests.{tests}
use Rattle.limits.specs.Limits.{width, patterns}
use Rattle.theory.specs.Lists.{any_below}
use Rattle.theory.specs.Tables.{table_at, slips}
use Rattle.tables.specs.Tables.{positive_checked}
use Rattle.forms.proofs.Chains.{first_found}
use Rattle.tables.proofs.Steady.check.Goals as goal

pub returns-in-Some : goal.returns-in-Some
unfolding positive_checked
returns-in-Some c =
    let slip = slips width (table_at c.args.table.now) in
    let found = first_from_Range _ _ _ (Some c.in-Some.v) (λ v. slip v ≡ true) (λ v. slip v ≡ false) c.in-Some.ensures.ran (λ x q k. search (rules, tests)) (λ x q k. search (rules, tests)) in
    let first = first_found slip patterns (Some c.in-Some.v) found in
    rw (first.0, first.1)

pub invariant_of-result : goal.invariant_of-result
invariant_of-result c =
    let slip = slips width (table_at c.args.table.now) in
    let found = first_from_Range _ _ _ None (λ v. slip v ≡ true) (λ v. slip v ≡ false) c.in-None.ensures.ran (λ x q k. search (rules, tests)) (λ x q k. search (rules, tests)) in
    record { steady = first_found slip patterns None found }

pub returns-in-None : goal.returns-in-None
unfolding positive_checked
returns-in-None c =
    let slip = slips width (table_at c.args.table.now) in
    let found = first_from_Range _ _ _ None (λ v. slip v ≡ true) (λ v. slip v ≡ false) c.in-None.ensures.ran (λ x q k. search (rules, tests)) (λ x q k. search (rules, tests)) in
    let none : any_below slip patterns ≡ false = first_found slip patterns None found in
    (refl, rw none)
