-- `windows::least_offset` meets its contract: the least offset is that of the least column. Assumes nothing.
use Rattle.std.proofs.Common.{rules, arith, ℕ, ℤ, pos, ◌≡◌, ◌≤◌, refl, sym, ap, ◌∙◌}
use Rattle.std.proofs.Math.IntN.{sub_ℕ}
use Rattle.std.specs.Int.Signed.{mag}
use Rattle.std.specs.Prelude.{Option, MatchOption, find}
use Rattle.std.specs.declared.option.Option.TheVariants as option
use Rattle.limits.specs.Limits.{reach}
use Rattle.theory.specs.Orders.{smallest}
use Rattle.theory.specs.Signals.{window, offsets, leftmost}
use Rattle.theory.proofs.Signs.{read_back}
use Rattle.windows.specs.Private.{stands, columns}
use Rattle.windows.proofs.Columns.{least_there, least_none, least_found}
use Rattle.windows.proofs.least_offset.Goals as goal

is_leftmost : (set : ℕ) (r : ℤ) (o : Option ℕ)
    → o ≡ find (stands set) columns
    → MatchOption o (r ≡ pos 0) (λ k. (r ≡ sub_ℕ k reach) × (mag r ≤ reach))
    → (r ≡ leftmost (offsets window set)) × (mag r ≤ reach)
unfolding leftmost smallest
is_leftmost set r option.None o e =
    let none = least_found set o in
    rw (e, least_none set (omega (arith, none))) (refl, search rules)
is_leftmost set r (option.Some k) o e =
    let found = least_found set o in
    let least = least_there set (omega (arith, found.0, found.1)) in
    (e.0 ∙ ap (λ (n : ℕ). sub_ℕ n reach) found.0 ∙ sym least, e.1)

pub returns : goal.returns
returns c =
    rw (read_back c.map_or.result c.map_or.type_inv)
    (is_leftmost c.args.set c.map_or.result c.find_least.result c.find_least.ensures c.map_or.ensures)
