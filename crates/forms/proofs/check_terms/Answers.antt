-- `forms::check_terms` meets its contract. Assumes nothing.
use Rattle.std.proofs.Common.{rules, ◌≡◌, true, false, length, Some, None}
use Rattle.std.proofs.lemmas.Iterator.{first_from_Range}
use borrow.Author.Tests.{tests}
use Rattle.theory.specs.Forms.{is_bad}
use Rattle.forms.specs.Check.{terms_checked}
use Rattle.forms.proofs.Chains.{first_found}
use Rattle.forms.proofs.check_terms.Goals as goal

pub returns-in-Some : goal.returns-in-Some
unfolding terms_checked
returns-in-Some c =
    let bad = is_bad c.args.width c.args.terms.now in
    let found = first_from_Range _ _ _ (Some c.in-Some.i) (λ i. bad i ≡ true) (λ i. bad i ≡ false) c.in-Some.ensures.ran (λ x q k. search (rules, tests)) (λ x q k. search (rules, tests)) in
    let first = first_found bad (length c.args.terms.now) (Some c.in-Some.i) found in
    rw (first.0, first.1)

pub returns-in-None : goal.returns-in-None
unfolding terms_checked
returns-in-None c =
    let bad = is_bad c.args.width c.args.terms.now in
    let found = first_from_Range _ _ _ None (λ i. bad i ≡ true) (λ i. bad i ≡ false) c.in-None.ensures.ran (λ x q k. search (rules, tests)) (λ x q k. search (rules, tests)) in
    let first = first_found bad (length c.args.terms.now) None found in
    rw first
