-- The twelve worked cases of document 01 that are marked (P), in one table, and what each claims.
use Rattle.std.specs.Prelude.{Ok}
use Rattle.std.specs.Prelude.{ℕ, ◌≡◌, List, [], ◌∷◌}
use Rattle.theory.specs.Signals.{held, cleaned}
use Rattle.recipes.specs.Judge.{recipe_checked}
use Rattle.runner.specs.Run.{ran}
use Rattle.compiler.specs.Compile.{compiled_form}

-- a case: a recipe's bytes and its form; a form, a scan and the cleaned scan; a recipe's bytes, a scan and what the recipe gives on it
pub data Case : Type 0 where
  compiles : List ℕ → List ℕ → Case
  cleans : List ℕ → List ℕ → List ℕ → Case
  runs : List ℕ → List ℕ → List ℕ → Case

-- what a case claims, the ends held: the recipe is accepted; a cleaned scan is by the count of levels
abbrev pub Claim : Case → Type 0
Claim (compiles recipe form) = (recipe_checked recipe ≡ Ok tt) × (compiled_form recipe ≡ form)
Claim (cleans form scan out) = cleaned held form scan ≡ out
Claim (runs recipe scan out) = (recipe_checked recipe ≡ Ok tt) × (ran held recipe scan ≡ out)

-- the steps' bytes: code, rank, set (two bytes, low first)
abbrev pub signal : List ℕ → List ℕ
signal rest = 0 ∷ 0 ∷ 0 ∷ 0 ∷ rest

-- a step with a set and no rank
abbrev pub step : ℕ → ℕ → List ℕ → List ℕ
step code set rest = code ∷ 0 ∷ set ∷ 0 ∷ rest

-- the table
abbrev pub cases : List Case
cases =
    compiles (signal []) (16 ∷ [])
    ∷ compiles (signal (step 6 56 [])) (24 ∷ 40 ∷ 48 ∷ [])
    ∷ compiles (signal (step 3 48 [])) (24 ∷ 48 ∷ [])
    ∷ compiles (signal (step 4 48 [])) (16 ∷ 40 ∷ [])
    ∷ compiles (signal (step 2 48 [])) (8 ∷ 16 ∷ [])
    ∷ compiles (signal (step 3 56 [])) (28 ∷ 56 ∷ 112 ∷ [])
    ∷ compiles (signal (step 4 48 (signal (step 8 0 [])))) (16 ∷ [])
    ∷ cleans (24 ∷ 40 ∷ 48 ∷ []) (10 ∷ 10 ∷ 90 ∷ 10 ∷ 10 ∷ []) (10 ∷ 10 ∷ 10 ∷ 10 ∷ 10 ∷ [])
    ∷ cleans (16 ∷ 40 ∷ []) (2 ∷ 2 ∷ 0 ∷ 1 ∷ 1 ∷ []) (2 ∷ 2 ∷ 1 ∷ 1 ∷ 1 ∷ [])
    ∷ runs (signal (step 1 56 (step 2 56 []))) (5 ∷ 0 ∷ 0 ∷ []) (5 ∷ 0 ∷ 0 ∷ [])
    ∷ runs (signal (step 1 1 [])) (7 ∷ []) (7 ∷ [])
    ∷ cleans [] (3 ∷ 9 ∷ []) (0 ∷ 0 ∷ [])
    ∷ []
