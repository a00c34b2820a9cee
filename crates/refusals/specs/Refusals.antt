-- The order in which refusals are asked, and what a call then leaves in a lent slice.
use Rattle.std.specs.Prelude.{Bool, cond, List, ◌++◌, length, drop, Result, Ok, Err}
use Rattle.refusals.specs.declared.Refusal.{Refusal}

-- what a check finds: nothing, or a refusal
abbrev pub Checked : Type 0
Checked = Result (Unit {0}) Refusal

-- refused exactly when the condition holds
abbrev pub refuse_if : Bool → Refusal → Checked
refuse_if b r = cond b (Err r) (Ok tt)

-- an order of refusals: what follows a check is asked only where the check finds nothing
abbrev pub and_then : {A : Type 0} → Checked → Result A Refusal → Result A Refusal
and_then (Ok done) later = later
and_then (Err r) later = Err r

-- a lent slice after the call: the answer from its start and the rest as it was; a refusal changes no element
abbrev pub written : {A : Type 0} → Checked → List A → List A → List A
written (Ok done) new old = new ++ drop (length new) old
written (Err r) new old = old

-- what a call leaves of a value that it changes: the new one, or after a refusal the old one
abbrev pub kept : {A : Type 0} → Checked → A → A → A
kept (Ok done) new old = new
kept (Err r) new old = old
