-- What C is told of a call's answer: a result and a value.
use Rattle.std.specs.Prelude.{ℕ, ◌≡◌, Result, Ok, Err}
use Rattle.refusals.specs.declared.Notice.{Notice}
use Rattle.refusals.specs.declared.Refusal.{Refusal}
use Rattle.refusals.specs.Numbers.{notice, notice_of}

-- the result 0 and the number that the call gives, or a refusal's number and its place
abbrev pub notice_told : Result ℕ Refusal → Notice
notice_told (Ok n) = notice 0 n
notice_told (Err r) = notice_of r

-- of an answer of which so much is promised
pub record Told (Promised : Result ℕ Refusal → Type 0) (code value : ℕ) : Type 0 where
  pub answer : Result ℕ Refusal
  pub promised : Promised answer
  pub is : notice code value ≡ notice_told answer
