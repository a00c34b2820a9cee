-- Texts put one behind the other are one text; put from a slice's start, it is what a call is to write.
-- Assumes nothing.
use Rattle.std.specs.Prelude.{Result, Ok}
use mathlib.Core.Path.{◌≡◌, sym, ap, ap₂, subst, ◌∙◌}
use mathlib.Core.List.{List, [], ◌++◌, append_assoc, append-nil}
use Prim.Native.Nat.{ℕ, ◌+◌, ◌-◌}
use native.Mathlib.Omega.{arith}
use lib.ListN.{length, take, drop, length-append, length-drop}
use lib.Seq.{drop-drop, drop-append_seam, take-append_seam}
use Rattle.std.proofs.lemmas.List.{take_all, drop_all}
use Rattle.refusals.specs.declared.Refusal.{Refusal}
use Rattle.refusals.specs.Shared.{lent_checked}
use Rattle.lines.specs.Lines.{Writes}
use Rattle.lines.specs.Private.{Put}

-- the same text
pub put_same : {a b old new : List ℕ} {r : ℕ} → a ≡ b → Put a old new r → Put b old new r
put_same {old = old} {new = new} {r = r} e p = subst (λ (l : List ℕ). Put l old new r) e p

-- a text behind what is put already, in what is left of the slice
pub put_then : {a b old mid new : List ℕ} {k r : ℕ} → Put a old mid k → Put b (take (length mid - k) (drop k mid)) new r
    → Put (a ++ b) old (take k mid ++ (new ++ drop (length mid - k) (drop k mid))) (k + r)
put_then {a} {b} {old} {mid} {new} {k} {r} p q =
    let n = length mid - k in
    let size : length (drop k mid) ≡ n = length-drop k mid in
    let gone : drop k mid ≡ drop (length a) old = rw (p.next, p.out) (drop-append_seam a (drop (length a) old)) in
    let part : take n (drop k mid) ≡ drop (length a) old = take_all n (drop k mid) (omega (arith, size)) ∙ gone in
    let rest : drop n (drop k mid) ≡ [] = drop_all n (drop k mid) (omega (arith, size)) in
    let front : take k mid ≡ a = rw (p.next, p.out) (take-append_seam a (drop (length a) old)) in
    record {
      out =
          ap₂ (λ (x y : List ℕ). x ++ (new ++ y)) front rest
          ∙ ap (λ (x : List ℕ). a ++ x)
          (append-nil new
          ∙ q.out
          ∙ ap (λ (l : List ℕ). b ++ drop (length b) l) part
          ∙ ap (λ (l : List ℕ). b ++ l) (drop-drop (length b) (length a) old))
          ∙ sym (append_assoc a b (drop (length a + length b) old))
          ∙ ap (λ (n : ℕ). (a ++ b) ++ drop n old) (sym (length-append a b));
      next = omega (arith, p.next, q.next, length-append a b);
      room = omega (arith, p.next, p.room, q.room, ap length part, length-drop (length a) old);
    }

-- what a call that writes a line has to show, by what the check of the slice said of its length

-- fine: the line is put
pub put_writes : (room : ℕ) {n : ℕ} {text old new : List ℕ} → lent_checked room (length old) ≡ Ok tt
    → Put text old new n → Writes room text old new (Ok n)
put_writes room {n} {text} {old} fine p =
    let told : ℕ → Result ℕ Refusal = λ k. Ok k in
    record { answer = rw fine (ap told p.next); out = rw fine p.out }
