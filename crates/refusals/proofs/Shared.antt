-- What the shared refusals tell where they are not given.
-- Assumes nothing.
use Prim.Native.Nat.{ℕ, ◌≤◌}
use native.Mathlib.Omega.{arith}
use mathlib.Core.Path.{◌≡◌}
use mathlib.Core.Bool.{Bool, true, false, not, ◌||◌}
use lib.Dec.{eqb, ltb}
use borrow.Author.Tests.{eqb-true, eqb-false, not-false, ltb-false, eq-eqb, ne_eqb, le-ltb}
use Rattle.std.specs.Prelude.{Ok}
use Rattle.refusals.specs.Shared.{room_checked, scan_checked, lent_checked}
use Rattle.refusals.proofs.Checks.{refuse_no}

-- of two tests neither of which passes
neither : (a b : Bool) → (a || b) ≡ false → (a ≡ false) × (b ≡ false)
neither true b e = (e, cc)
neither false b e = (cc, e)

pub room_fine : (needed lent : ℕ) → room_checked needed lent ≡ Ok tt → needed ≤ lent
unfolding room_checked
room_fine needed lent e = ltb-false lent needed (refuse_no (ltb lent needed) _ e)

pub fine_room : (needed lent : ℕ) → needed ≤ lent → room_checked needed lent ≡ Ok tt
unfolding room_checked
fine_room needed lent h = rw (le-ltb lent needed h)

pub scan_fine : (most n : ℕ) → scan_checked most n ≡ Ok tt → (1 ≤ n) × (n ≤ most)
unfolding scan_checked
scan_fine most n e =
    let t = neither (eqb n 0) (ltb most n) (refuse_no (eqb n 0 || ltb most n) _ e) in
    let ne : n ≡ 0 → ⊥ = eqb-false n 0 t.0 in
    (omega arith, ltb-false most n t.1)

pub fine_scan : (most n : ℕ) → 1 ≤ n → n ≤ most → scan_checked most n ≡ Ok tt
unfolding scan_checked
fine_scan most n l u = rw (ne_eqb n 0 (λ e. omega arith), le-ltb most n u)

pub lent_fine : (needed lent : ℕ) → lent_checked needed lent ≡ Ok tt → lent ≡ needed
unfolding lent_checked
lent_fine needed lent e = eqb-true lent needed (not-false (eqb lent needed) (refuse_no (not (eqb lent needed)) _ e))

pub fine_lent : (needed lent : ℕ) → lent ≡ needed → lent_checked needed lent ≡ Ok tt
unfolding lent_checked
fine_lent needed lent e = rw (eq-eqb lent needed e)
