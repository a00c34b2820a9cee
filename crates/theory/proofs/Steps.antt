-- An opening or a closing is the same by a set that is moved: so its inside can be kept in the window.
-- Assumes nothing.
use mathlib.Core.Path.{◌≡◌, sym, ap, ◌∙◌}
use mathlib.Core.List.{List, ◌∷◌, map}
use lib.IntN.{ℤ, neg_ℤ, ◌+ℤ◌, +ℤ_assoc, +ℤ_comm, +ℤ_idr, +ℤ_invr, +ℤ_invl, neg_ℤ-+ℤ}
use Rattle.theory.specs.Orders.{Order}
use Rattle.theory.specs.Ranks.{Pick, the_smallest, the_largest}
use Rattle.theory.proofs.Plans.{Plan, near, meaning}
use Rattle.theory.proofs.Lists.{map_id}
use Rattle.theory.proofs.Ranks.{pick_agree, pick_map}

-- two picks, the second over the mirrored offsets: the offsets may be moved by c

slide : (y b c : ℤ) → y +ℤ (b +ℤ c) ≡ (y +ℤ c) +ℤ b
slide y b c = ap (λ (z : ℤ). y +ℤ z) (+ℤ_comm b c) ∙ sym (+ℤ_assoc y c b)

-- x - (b + c), and then c up, is x - b
back : (x b c : ℤ) → (x +ℤ neg_ℤ (b +ℤ c)) +ℤ c ≡ x +ℤ neg_ℤ b
back x b c =
    +ℤ_assoc x (neg_ℤ (b +ℤ c)) c
    ∙ ap (λ (z : ℤ). x +ℤ z)
    (ap (λ (z : ℤ). z +ℤ c) (neg_ℤ-+ℤ b c) ∙ +ℤ_assoc (neg_ℤ b) (neg_ℤ c) c ∙ ap (λ (z : ℤ). neg_ℤ b +ℤ z) (+ℤ_invl c) ∙ +ℤ_idr (neg_ℤ b))

-- x + (b + c), and then c down, is x + b
forth : (x b c : ℤ) → (x +ℤ (b +ℤ c)) +ℤ neg_ℤ c ≡ x +ℤ b
forth x b c = +ℤ_assoc x (b +ℤ c) (neg_ℤ c) ∙ ap (λ (z : ℤ). x +ℤ z) (+ℤ_assoc b c (neg_ℤ c) ∙ ap (λ (z : ℤ). b +ℤ z) (+ℤ_invr c) ∙ +ℤ_idr b)

module _ {A : Type 0} (O : Order A) (e : Plan) (g : ℤ → A) where
  -- a pick by offsets r b is the pick by offsets q b, moved by c, where r b is q b and c together
  moved_by : (p : Pick) (q r : ℤ → ℤ) (c b : ℤ) (bs : List ℤ) → ((y z : ℤ) → y +ℤ r z ≡ (y +ℤ c) +ℤ q z)
      → (y : ℤ) → meaning O (near p (map r (b ∷ bs)) e) g y ≡ meaning O (near p (map q (b ∷ bs)) e) g (y +ℤ c)
  unfolding meaning
  moved_by p q r c b bs h y =
      pick_map O r p _ (λ z. meaning O e g (y +ℤ z)) (b ∷ bs)
      ∙ pick_agree O p _ _ _ _ b bs (λ z m. ap (meaning O e g) (h y z))
      ∙ sym (pick_map O q p _ (λ z. meaning O e g (y +ℤ c +ℤ z)) (b ∷ bs))

  -- two picks, the inner moved by c and the outer moved back
  moved_twice : (p p' : Pick) (v u r q : ℤ → ℤ) (c b : ℤ) (bs : List ℤ) → ((x z : ℤ) → (x +ℤ v z) +ℤ c ≡ x +ℤ u z)
      → ((y z : ℤ) → y +ℤ r z ≡ (y +ℤ c) +ℤ q z)
      → (x : ℤ) → meaning O (near p (map v (b ∷ bs)) (near p' (map r (b ∷ bs)) e)) g x
      ≡ meaning O (near p (map u (b ∷ bs)) (near p' (map q (b ∷ bs)) e)) g x
  unfolding meaning
  moved_twice p p' v u r q c b bs outer inner x =
      pick_map O v p _ _ (b ∷ bs)
      ∙ pick_agree O p _ _ _ _ b bs
      (λ z m. moved_by p' q r c b bs inner (x +ℤ v z) ∙ ap (meaning O (near p' (map q (b ∷ bs)) e) g) (outer x z))
      ∙ sym (pick_map O u p _ _ (b ∷ bs))

  pub moved-opening : (c b : ℤ) (bs : List ℤ) (x : ℤ)
      → meaning O (near the_largest (map (λ z. neg_ℤ (z +ℤ c)) (b ∷ bs)) (near the_smallest (map (λ z. z +ℤ c) (b ∷ bs)) e)) g x
      ≡ meaning O (near the_largest (map neg_ℤ (b ∷ bs)) (near the_smallest (b ∷ bs) e)) g x
  moved-opening c b bs x =
      moved_twice the_largest the_smallest (λ z. neg_ℤ (z +ℤ c)) neg_ℤ (λ z. z +ℤ c) (λ z. z) c b bs (λ x z. back x z c)
      (λ y z. slide y z c) x
      ∙ ap (λ (l : List ℤ). meaning O (near the_largest (map neg_ℤ (b ∷ bs)) (near the_smallest l e)) g x) (map_id (b ∷ bs))

  pub moved_closing : (c b : ℤ) (bs : List ℤ) (x : ℤ)
      → meaning O (near the_smallest (map (λ z. z +ℤ c) (b ∷ bs)) (near the_largest (map (λ z. neg_ℤ (z +ℤ c)) (b ∷ bs)) e)) g x
      ≡ meaning O (near the_smallest (b ∷ bs) (near the_largest (map neg_ℤ (b ∷ bs)) e)) g x
  moved_closing c b bs x =
      moved_twice the_smallest the_largest (λ z. z +ℤ c) (λ z. z) (λ z. neg_ℤ (z +ℤ c)) neg_ℤ (neg_ℤ c) b bs (λ x z. forth x z c)
      (λ y z. ap (λ (k : ℤ). y +ℤ k) (neg_ℤ-+ℤ z c) ∙ slide y (neg_ℤ z) (neg_ℤ c)) x
      ∙ ap (λ (l : List ℤ). meaning O (near the_smallest l (near the_largest (map neg_ℤ (b ∷ bs)) e)) g x) (map_id (b ∷ bs))
