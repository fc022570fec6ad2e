-- The bounds of each number reader: how large its value is, and how many lexemes it takes.
use Rattle.std.specs.Prelude.{Some, None, Ok, Err}
use mathlib.Core.Path.{refl}
use mathlib.Core.Bool.{Bool, ◌&&◌}
use mathlib.Core.List.{List, [], ◌∷◌}
use Prim.Native.Nat.{ℕ, ◌+◌, ◌*◌, ◌%◌, ◌≤◌, ◌<◌, max}
use native.Mathlib.Omega.{arith}
use lib.Dec.{leb, eqb}
use lib.ListN.{length, drop, length-drop}
use borrow.Author.Tests.{leb-true, le-leb}
use Rattle.lexer.specs.Lexemes.{TH, Dash, And, Hundred, Thousand, Million, Billion, NUM, value_of}
use Rattle.lexer.specs.declared.reading.Reading.{Reading}
use Rattle.lexer.specs.declared.reading.Reading.TheVariants.{First, Second}
use Rattle.numbers.specs.Slices.{get, is_at, one_if, within}
use Rattle.numbers.specs.Answers.{NumberFound, MAX, Bounded, Taken, Read, number, or_zero, fits_of}
use Rattle.numbers.specs.Numbers.{is_ending, word_of, literal_of, literal_tokens, ones_of, teens_of, tens_of, tens_ones_of}
use Rattle.numbers.specs.Numbers.{num_double_of, sum_of, tail_of, hundreds_of, num_triple_of, num_triple_unit_of, units_of, num_step, num_of}
use Rattle.numbers.proofs.LexemeAt.{one-most, within_bounds, literal_bounds, at_most, there}
use Rattle.numbers.proofs.Again.{again_keeps}
use Rattle.numbers.proofs.NumberAnswers.{nothing, wider, read, pick_bounded, or-bounded, then_bounded}

-- an ending that is taken behind the first lexeme is there
ending_most : (l : List ℕ) → 1 + one_if (is_ending (get l 1)) ≤ max 1 (length l)
unfolding is_ending get
ending_most [] = omega arith
ending_most (x ∷ []) = omega arith
ending_most (x ∷ y ∷ ys) = let h = one-most (is_ending (get (x ∷ y ∷ ys) 1)) in omega arith

-- the lexemes of a literal are there
tokens_most : (reading : Reading) (l : List ℕ) (tokens : ℕ) → 0 < tokens → tokens ≤ max 1 (length l)
    → (0 < literal_tokens reading l tokens) × (literal_tokens reading l tokens ≤ max 1 (length l))
tokens_most First l tokens some room = (some, room)
tokens_most Second l tokens some room = (omega arith, ending_most l)

-- a lexeme, which is no 0, is there
pub first : (l : List ℕ) → 0 < get l 0 → 0 < length l
unfolding get
first [] h = h
first (x ∷ xs) h = omega arith

module _ (l : List ℕ) (lo hi tokens : ℕ) (some : 0 < tokens) (room : tokens ≤ max 1 (length l)) where
  word_taken : 0 < lo → Taken (word_of l lo hi tokens) 1 hi (length l)
  unfolding word_of
  word_taken pos =
      pick_bounded (within lo (get l 0) hi) _ _
      (λ e. record {
        bounds =
            let b = within_bounds lo (get l 0) hi refl e in
            let h = first l (omega arith) in
            omega arith;
      })
      (λ e. nothing)

  literal_taken : Taken (literal_of l lo hi tokens) 1 hi (length l)
  unfolding literal_of
  literal_taken =
      pick_bounded (leb NUM (get l 0) && within lo (value_of (get l 0)) hi) _ _
      (λ e. record {
        bounds =
            let b = literal_bounds lo (get l 0) hi e in
            let h = first l (omega arith) in
            omega arith;
      })
      (λ e. nothing)

pub ones_taken : (l : List ℕ) → Taken (ones_of l) 1 9 (length l)
unfolding ones_of
ones_taken l =
    let room = ending_most l in
    or-bounded _ _ (word_taken l 1 9 _ (omega arith) room (omega arith)) (literal_taken l 0 9 _ (omega arith) room)

-- a literal with the endings of its reading
literal_in_taken : (reading : Reading) (l : List ℕ) (lo hi tokens : ℕ) → 0 < tokens → tokens ≤ max 1 (length l)
    → Taken (literal_of l lo hi (literal_tokens reading l tokens)) 1 hi (length l)
literal_in_taken reading l lo hi tokens some room =
    let h = tokens_most reading l tokens some room in
    literal_taken l lo hi _ h.0 h.1

pub teens_taken : (reading : Reading) (l : List ℕ) → Taken (teens_of reading l) 1 19 (length l)
unfolding teens_of
teens_taken reading l =
    let room = at_most l 1 TH in
    or-bounded _ _ (word_taken l 10 19 _ (omega arith) room (omega arith)) (literal_in_taken reading l 10 19 _ (omega arith) room)

pub tens_taken : (l : List ℕ) → Taken (tens_of l) 1 90 (length l)
unfolding tens_of
tens_taken l =
    then_bounded _ _ (word_taken l 20 90 _ (omega arith) (at_most l 1 TH) (omega arith))
    (λ a b d e. pick_bounded (eqb (a.value % 10) 0) _ _ (λ f. record { bounds = omega arith }) (λ f. nothing))

-- ones that may be missing
zero-taken : (w : NumberFound) {k hi n : ℕ} → Taken w k hi n → Taken (or_zero w) 0 hi n
zero-taken (Ok (Some a)) h = record { bounds = let b = h.bounds in omega arith }
zero-taken (Ok None) h = record { bounds = omega arith }
zero-taken (Err e) h = record { bounds = h.bounds }

pub tens_ones_taken : (l : List ℕ) → Taken (tens_ones_of l) 1 99 (length l)
unfolding tens_ones_of
tens_ones_taken l =
    then_bounded _ _ (tens_taken l) (λ tens a b d.
    let room = at_most l tens.taken Dash in
    let tokens = tens.taken + one_if (is_at l tens.taken Dash) in
    then_bounded _ _ (zero-taken _ (ones_taken (drop tokens l))) (λ ones e f g.
    record { bounds = let h = length-drop tokens l in omega arith }))

pub num_double_taken : (reading : Reading) (l : List ℕ) → Taken (num_double_of reading l) 1 99 (length l)
unfolding num_double_of
num_double_taken reading l =
    or-bounded _ _ (tens_ones_taken l)
    (or-bounded _ _ (wider (omega arith) (teens_taken reading l))
    (or-bounded _ _ (wider (omega arith) (ones_taken l))
    (literal_in_taken reading l 20 99 1 (omega arith) (omega arith))))

-- a tested sum that is small enough
fits_taken : (v t hi n : ℕ) → (v ≤ hi) × (hi ≤ MAX) × (0 < t) × (t ≤ n) → Taken (fits_of v t) 1 hi n
unfolding fits_of
fits_taken v t hi n h = rw (le-leb v MAX (omega arith)) (record { bounds = omega arith })

-- any tested sum
fits_read : (v t n : ℕ) → (0 < t) × (t ≤ n) → Read (fits_of v t) 1 n
unfolding fits_of
fits_read v t n h =
    pick_bounded (leb v MAX) _ _
    (λ e. record { bounds = let g = leb-true v MAX e in omega arith })
    (λ e. record { bounds = tt })

module _ {overflow : Type 0} {hi hi' : ℕ} (head n : ℕ)
    (tested : (v t : ℕ) → v ≤ head + hi → 0 < t → t ≤ n → Bounded overflow (fits_of v t) 1 hi' n) where
  -- a head and the number behind it
  sum-bounded : (required : Bool) (tokens m : ℕ) (w : NumberFound) → 0 < tokens → tokens + m ≤ n
      → Bounded overflow w 1 hi m → Bounded overflow (sum_of required head tokens w) 1 hi' n
  unfolding sum_of
  sum-bounded required tokens m (Ok (Some a)) p q h =
      let b = h.bounds in
      tested (head + a.value) (tokens + a.taken) (omega arith) (omega arith) (omega arith)
  sum-bounded required tokens m (Ok None) p q h =
      pick_bounded required _ _ (λ e. nothing) (λ e. tested head tokens (omega arith) (omega arith) (omega arith))
  sum-bounded required tokens m (Err e) p q h = record { bounds = h.bounds }

-- a tail takes no more than there is, and its sum is what the test says
tail_bounded : {overflow : Type 0} {hi hi' : ℕ} (N : List ℕ → NumberFound) (l : List ℕ) (head t : ℕ)
    → ((v s : ℕ) → v ≤ head + hi → 0 < s → s ≤ length l → Bounded overflow (fits_of v s) 1 hi' (length l))
    → ((m : List ℕ) → Bounded overflow (N m) 1 hi (length m)) → 0 < t → t ≤ length l
    → Bounded overflow (tail_of N l head t) 1 hi' (length l)
unfolding tail_of
tail_bounded N l head t tested bounded p q =
    let tokens = t + one_if (is_at l t And) in
    let room = at_most l t And in
    let left = length-drop tokens l in
    sum-bounded head (length l) tested (is_at l t And) tokens (length (drop tokens l)) _
    (omega arith) (omega arith) (bounded (drop tokens l))

pub hundreds_taken : (reading : Reading) (l : List ℕ) (ones : NumberFound) → Taken ones 0 9 (length l) → Taken (hundreds_of reading l ones) 1 999 (length l)
unfolding hundreds_of
hundreds_taken reading l ones h =
    then_bounded _ _ h (λ ones a b d.
    pick_bounded (is_at l ones.taken Hundred) _ _
    (λ e. let room = there (at_most l ones.taken Hundred) e in
    tail_bounded (num_double_of reading) l (ones.value * 100) (ones.taken + 1)
    (λ s u f g i. fits_taken s u 999 (length l) (omega arith))
    (num_double_taken reading) (omega arith) (omega arith))
    (λ e. nothing))

pub num_triple_taken : (reading : Reading) (l : List ℕ) → Taken (num_triple_of reading l) 1 999 (length l)
unfolding num_triple_of
num_triple_taken reading l =
    or-bounded _ _ (hundreds_taken reading l (ones_of l) (wider (omega arith) (ones_taken l)))
    (or-bounded _ _ (hundreds_taken reading l (number 1 0) (record { bounds = omega arith }))
    (or-bounded _ _ (wider (omega arith) (num_double_taken reading l))
    (literal_taken l 100 999 _ (omega arith) (ending_most l))))

pub num_triple_unit_taken : (l : List ℕ) → Taken (num_triple_unit_of l) 1 1000000000 (length l)
unfolding num_triple_unit_of
num_triple_unit_taken l =
    pick_bounded (is_at l 0 Thousand) _ _ (λ e. record { bounds = let h = there (at_most l 0 Thousand) e in omega arith }) (λ e.
    pick_bounded (is_at l 0 Million) _ _ (λ e. record { bounds = let h = there (at_most l 0 Million) e in omega arith }) (λ e.
    pick_bounded (is_at l 0 Billion) _ _ (λ e. record { bounds = let h = there (at_most l 0 Billion) e in omega arith }) (λ e. nothing)))

module _ (N : List ℕ → NumberFound) (reads : (l : List ℕ) → Read (N l) 1 (length l)) (l : List ℕ) where
  pub units_read : (triple : NumberFound) → Taken triple 0 999 (length l) → Read (units_of N l triple) 1 (length l)
  unfolding units_of
  units_read triple h =
      then_bounded _ _ h (λ triple a b d.
      then_bounded _ _ (num_triple_unit_taken (drop triple.taken l)) (λ unit e f g.
      let left = length-drop triple.taken l in
      tail_bounded N l (triple.value * unit.value) (triple.taken + unit.taken)
      (λ s i x y z. fits_read s i (length l) (omega arith))
      reads (omega arith) (omega arith)))

  step_read : (reading : Reading) → Read (num_step reading N l) 1 (length l)
  unfolding num_step
  step_read reading =
      or-bounded _ _ (units_read (num_triple_of reading l) (wider (omega arith) (num_triple_taken reading l)))
      (or-bounded _ _ (units_read (number 1 0) (record { bounds = omega arith }))
      (or-bounded _ _ (read (omega arith) (num_triple_taken reading l))
      (read (omega arith) (literal_in_taken reading l 1000 MAX 1 (omega arith) (omega arith)))))

-- a number is a u32 of at least one lexeme and at most all
pub num_read : (reading : Reading) (l : List ℕ) → Read (num_of reading l) 1 (length l)
unfolding num_of
num_read reading l = again_keeps (Ok None) (num_step reading) (λ m w. Read w 1 (length m)) (λ m. nothing) (λ N reads m. step_read N reads m reading) l
