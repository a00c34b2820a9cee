-- `windows::greatest_offset` meets its contract: the greatest offset is that of the greatest column. Assumes nothing.
use Rattle.std.proofs.Common.{rules, arith, ℕ, ℤ, pos, ◌≡◌, true, ◌+◌, ◌≤◌, ◌<◌, refl, sym, ◌∙◌}
use Rattle.std.proofs.Math.IntN.{sub_ℕ}
use Rattle.std.specs.Int.Signed.{mag}
use Rattle.std.specs.Prelude.{Option, MatchOption}
use Rattle.std.specs.declared.option.Option.TheVariants as option
use Rattle.limits.specs.Limits.{reach, width}
use Rattle.theory.specs.Orders.{largest}
use Rattle.theory.specs.Signals.{wide, window, offsets, rightmost}
use Rattle.theory.proofs.Signs.{read_back}
use Rattle.theory.proofs.Offsets.{rightmost_column}
use Rattle.theory.proofs.Signals.{window_fair}
use Rattle.windows.specs.Private.{stands, NoneFrom}
use Rattle.windows.proofs.Columns.{stands_in, no_column}
use Rattle.windows.proofs.greatest_offset.Goals as goal

is_rightmost : (set : ℕ) (r : ℤ) (o : Option ℕ)
    → MatchOption o (NoneFrom set 0) (λ k. (k < width) × (stands set k ≡ true) × NoneFrom set (k + 1))
    → MatchOption o (r ≡ pos 0) (λ k. (r ≡ sub_ℕ k reach) × (mag r ≤ reach))
    → (r ≡ rightmost (offsets window set)) × (mag r ≤ reach)
unfolding rightmost largest wide window
is_rightmost set r option.None none e =
    let none = no_column window window_fair set (λ k l. stands_in set k l (none k (omega arith) l)) in
    rw (e, none) (refl, search rules)
is_rightmost set r (option.Some k) found e =
    let greatest =
    rightmost_column window window_fair set k found.0 (stands_in set k found.0 found.1) (λ j l u. stands_in set j u (found.2 j (omega arith) u)) in
    (e.0 ∙ sym greatest, e.1)

pub returns : goal.returns
returns c =
    rw (read_back c.map_or.result c.map_or.type_inv)
    (is_rightmost c.args.set c.map_or.result c.find_greatest.result c.find_greatest.ensures c.map_or.ensures)
