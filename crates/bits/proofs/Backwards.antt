-- A loop that goes over a list from its last element back: what is left is the front of the list.
-- Assumes nothing.
use Rattle.std.proofs.Common.{◌+◌, arith, ◌≡◌, sym, ap, ◌∙◌, List, [], ◌∷◌, ◌++◌, length, take, get_or}
use Rattle.std.proofs.lemmas.List.{length_push, get_or-take, take-take}
use lib.Seq.{get_or-append_seam, take-append_seam}

module _ {A : Type 0} (d : A) (xs left rest : List A) (x : A) (front : left ≡ take (length left) xs) (next : left ≡ rest ++ (x ∷ [])) where
  pub back_length : length left ≡ length rest + 1
  back_length = ap length next ∙ length_push rest x

  pub back_front : rest ≡ take (length rest) xs
  back_front =
      sym (take-append_seam rest (x ∷ []))
      ∙ ap (take (length rest)) (sym next ∙ front)
      ∙ take-take (length rest) (length left) xs (omega (arith, back_length))

  pub back_item : x ≡ get_or xs (length rest) d
  back_item =
      sym (get_or-append_seam rest x [] d)
      ∙ ap (λ (l : List A). get_or l (length rest) d) (sym next ∙ front)
      ∙ get_or-take (length left) xs (length rest) d (omega (arith, back_length))
