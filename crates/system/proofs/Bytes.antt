-- Laws of the bytes that reads take: how they stand in the slice, and what several reads take together. Assumes nothing.
use Rattle.std.proofs.Common.{◌≡◌, ℕ, ◌+◌, ◌-◌, ◌≤◌, List, ◌++◌, Option, Some, None, sym, ap, ◌∙◌, length, take, drop, arith}
use Rattle.std.proofs.lemmas.List.{drop-take, take-append-le, length-take-le}
use Rattle.std.proofs.Math.Seq.{take-add, drop-append_seam}
use Rattle.std.proofs.lemmas.Grind.{common_steps}
use Rattle.std.specs.Io.KnownBytes.{Consumes, Appends}
use Rattle.system.specs.Reads.{ReadsOn}

-- the bytes that one read more took stand behind those that there were
pub read_stands : (bytes n m : ℕ) (old part rest : List ℕ) → bytes ≤ length old → n ≤ length part → m ≡ bytes + n
    → drop bytes (take m (take bytes old ++ (part ++ rest))) ≡ take n part
read_stands bytes n m old part rest h k e =
    let all = take bytes old ++ (part ++ rest) in
    let len : length (take bytes old) ≡ bytes = length-take-le bytes old h in
    ap (λ (i : ℕ). drop bytes (take i all)) e
    ∙ drop-take bytes n all
    ∙ ap (λ (xs : List ℕ). take n xs) (ap (λ (i : ℕ). drop i all) (sym len) ∙ drop-append_seam (take bytes old) (part ++ rest))
    ∙ take-append-le n part rest k

-- the bytes that there were, and those that one read more took
pub read_joins : (bytes n : ℕ) (old new : List ℕ) → bytes ≤ n → take bytes new ≡ take bytes old
    → take bytes old ++ drop bytes (take n new) ≡ take n new
read_joins bytes n old new h e =
    let k = n - bytes in
    let all : n ≡ bytes + k = omega arith in
    ap (λ (xs : List ℕ). xs ++ drop bytes (take n new)) (sym e)
    ∙ ap (λ (i : ℕ). take bytes new ++ drop bytes (take i new)) all
    ∙ ap (λ (xs : List ℕ). take bytes new ++ xs) (drop-take bytes k new)
    ∙ sym (take-add bytes k new)
    ∙ ap (λ (i : ℕ). take i new) (sym all)

-- what two reads take, one after the other
pub takes_both : (a b c : Option (List ℕ)) (xs ys : List ℕ) → Consumes a b xs → Consumes b c ys → Consumes a c (xs ++ ys)
takes_both None b c xs ys p q = tt
takes_both (Some f) None c xs ys p q = absurd p
takes_both (Some f) (Some g) None xs ys p q = absurd q
takes_both (Some f) (Some g) (Some h) xs ys p q = grind (arith, common_steps)

-- what there was in the slice, and what one read more brought
pub reads_both : (a b c : Option (List ℕ)) (n m : ℕ) (old new : List ℕ) → n ≤ length old → ReadsOn n old new m → Consumes a b (take n old)
    → Consumes b c (drop n (take m new)) → Consumes a c (take m new)
reads_both a b c n m old new fit more p q =
    let joined = read_joins n m old new (omega (arith, fit, more.enough)) more.kept in
    rw joined at (takes_both a b c (take n old) (drop n (take m new)) p q)

-- what two writes append, one after the other
pub grows_twice : (a b c : Option (List ℕ)) (xs ys : List ℕ) → Appends a b xs → Appends b c ys → Appends a c (xs ++ ys)
grows_twice None b c xs ys p q = tt
grows_twice (Some f) None c xs ys p q = absurd p
grows_twice (Some f) (Some g) None xs ys p q = absurd q
grows_twice (Some f) (Some g) (Some h) xs ys p q = grind (arith, common_steps)
