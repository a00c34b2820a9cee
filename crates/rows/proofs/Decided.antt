-- Each public contract allows one outcome: it is an equation for each slice that is lent.
-- Assumes nothing.
use Prim.Native.Nat.{ℕ}
use mathlib.Core.Path.{◌≡◌, sym, ◌∙◌}
use mathlib.Core.Bool.{Bool, cond}
use mathlib.Core.List.{List}
use Rattle.rows.proofs.Passes.{copied, put_widened, put_paired}

pub copy_decided : (from : ℕ) (src dst new new' : List ℕ) → new ≡ copied from src dst → new' ≡ copied from src dst → new ≡ new'
copy_decided from src dst new new' p q = p ∙ sym q

pub widen_decided : (k l r : ℕ) (src room new new' : List ℕ) → new ≡ put_widened k l r src room → new' ≡ put_widened k l r src room
    → new ≡ new'
widen_decided k l r src room new new' p q = p ∙ sym q

pub pair_decided : (high : Bool) (other row new new' : List ℕ) → new ≡ put_paired high other row → new' ≡ put_paired high other row
    → new ≡ new'
pair_decided high other row new new' p q = p ∙ sym q

-- a change leaves the row changed and the room as it was read, or both as they were
pub change_row_decided : (can : Bool) (result row read room new new' fresh fresh' : List ℕ)
    → (new ≡ cond can result row) × (fresh ≡ cond can read room)
    → (new' ≡ cond can result row) × (fresh' ≡ cond can read room)
    → (new ≡ new') × (fresh ≡ fresh')
change_row_decided can result row read room new new' fresh fresh' p q = (p.0 ∙ sym q.0, p.1 ∙ sym q.1)
