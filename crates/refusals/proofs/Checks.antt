-- What an order of refusals tells where it finds nothing, and what a slice then holds.
-- Assumes nothing.
use Prim.Native.Nat.{ℕ, ◌≤◌}
use native.Mathlib.Omega.{arith}
use mathlib.Core.Path.{◌≡◌, refl}
use mathlib.Core.Bool.{Bool, true, false}
use mathlib.Core.List.{List, append-nil}
use lib.ListN.{length, drop_of_length-le}
use Rattle.std.specs.Prelude.{Result, Ok, Err}
use Rattle.refusals.specs.declared.Refusal.{Refusal}
use Rattle.refusals.specs.Refusals.{Checked, refuse_if, and_then, written}

-- a test that refuses did not pass, where nothing is refused
pub refuse_no : (b : Bool) (r : Refusal) → refuse_if b r ≡ Ok tt → b ≡ false
refuse_no true r e = absurd (cc)
refuse_no false r e = refl

-- of two checks in order, neither refuses where the order finds nothing
pub and_then_fine : (a b : Checked) → and_then a b ≡ Ok tt → (a ≡ Ok tt) × (b ≡ Ok tt)
and_then_fine (Ok tt) b e = (refl, e)
and_then_fine (Err r) b e = absurd (cc)

-- an answer that gives a comes of a check that found nothing
pub done_fine : {A : Type 0} (c : Checked) (b a : A) → Ok a ≡ and_then c (Ok b) → (c ≡ Ok tt) × (a ≡ b)
done_fine (Ok tt) b a e = (refl, cc)
done_fine (Err r) b a e = absurd (cc)

-- a refusal is the check's
pub refused_by : {A : Type 0} (c : Checked) (r : Refusal) (b : A) → Err r ≡ and_then c (Ok b) → c ≡ Err r
refused_by (Ok tt) r b e = absurd (cc)
refused_by (Err q) r b e = cc

-- an answer as long as the slice that it is written to is the whole of it
pub written_whole : {A : Type 0} {c : Checked} (new old : List A) → c ≡ Ok tt → length old ≤ length new → written c new old ≡ new
written_whole new old e h = rw (e, drop_of_length-le old h) (append-nil new)
