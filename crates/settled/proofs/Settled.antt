-- Any two answers that a promise allows for the same arguments are equal; and a call that asks nothing. Assumes nothing.
use mathlib.Core.Path.{◌≡◌, sym, ◌∙◌}

-- a promise as the checker has it: a claim of the lifetimes, the arguments, the result and the parameters at exit
module _ {K : Type 0} {A R E : K → Type 0} (Post : (κs : K) → A κs → R κs → E κs → Type 0) where
  -- what is seen of an answer, in its result and in the parameters at exit, is the same for any two answers
  abbrev pub Same : {S : K → Type 0} → ((κs : K) → R κs → E κs → S κs) → Type 0
  Same seen = (κs : K) (a : A κs) (z w : R κs) (e f : E κs) → Post κs a z e → Post κs a w f → seen κs z e ≡ seen κs w f

  -- the result is
  abbrev pub Settled : Type 0
  Settled = Same (λ κs z e. z)

  -- the general law: a promise that gives by the arguments alone what is seen settles it
  pub same : {S : K → Type 0} (seen : (κs : K) → R κs → E κs → S κs) (given : (κs : K) → A κs → S κs)
      → ((κs : K) (a : A κs) (z : R κs) (e : E κs) → Post κs a z e → seen κs z e ≡ given κs a) → Same seen
  same seen given by κs a z w e f p q = by κs a z e p ∙ sym (by κs a w f q)

  -- a result of which the promise speaks by a definition that is another for each result
  pub through : {B : Type 0} (value : (κs : K) → R κs → B) → ((κs : K) (z w : R κs) → value κs z ≡ value κs w → z ≡ w)
      → Same (λ κs z e. value κs z) → Settled
  through value one s κs a z w e f p q = one κs z w (s κs a z w e f p q)

-- what a function asks of its arguments holds of all: no caller has to check anything first
module _ {K : Type 0} {A : K → Type 0} (Asked : (κs : K) → A κs → Type 0) where
  abbrev pub Open : Type 0
  Open = (κs : K) (a : A κs) → Asked κs a
