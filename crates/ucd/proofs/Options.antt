-- What an option gives that was made of another: the value that it was made of.
-- Assumes nothing.
use mathlib.Core.Path.{◌≡◌, refl}
use Rattle.std.specs.Prelude.{Option, None, Some, Result, Ok, Err, ok_or, option_map, option_and_then}

module _ {A B : Type 0} where
  -- one step after another gave a value: both did
  pub both-some : (o : Option A) (f : A → Option B) {b : B}
      → option_and_then f o ≡ Some b
      → (a : A) × (o ≡ Some a) × (f a ≡ Some b)
  both-some None f e = cc
  both-some (Some a) f e = (a, refl, e)

  -- a value was made of another
  pub made-some : (f : A → B) (o : Option A) {b : B} → option_map f o ≡ Some b → (a : A) × (o ≡ Some a) × (f a ≡ b)
  made-some f None e = cc
  made-some f (Some a) e = (a, refl, cc)

-- the error is answered where there is no value, and it is the one that was named
pub missing : {A E : Type 0} (o : Option A) (e f : E) {r : Result A E} → r ≡ ok_or o e → r ≡ Err f → (o ≡ None) × (e ≡ f)
missing None e f p q = (refl, cc)
missing (Some a) e f p q = cc

-- the value is answered where there is one
pub present : {A E : Type 0} (o : Option A) (e : E) (a : A) {r : Result A E} → r ≡ ok_or o e → r ≡ Ok a → o ≡ Some a
present None e a p q = cc
present (Some b) e a p q = cc
