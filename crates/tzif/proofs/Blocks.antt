-- What a header and a block that pass are known for.
use Prim.Native.Nat.{ℕ, ◌+◌, ◌*◌, ◌≤◌, ◌<◌}
use native.Mathlib.Omega.{arith}
use mathlib.Core.Path.{◌≡◌, refl}
use mathlib.Core.Bool.{true}
use mathlib.Core.List.{List}
use lib.ListN.{length}
use Rattle.std.proofs.lemmas.Bool.Decides.{nat_tests}
use Rattle.digits.specs.Bytes.{bytes_of}
use Rattle.tzif.specs.File.{octet_at, four_at, offset_at, is_header, block_length, time_at, is_time, is_above, is_transition, is_type}
use Rattle.tzif.specs.File.{each, is_block}
use Rattle.tzif.specs.declared.file.Header.{Header}
use Rattle.tzif.proofs.Entries.{each_at}

-- "TZif" as a number
pub magic : four_at (bytes_of "TZif") 0 ≡ 1415211366
unfolding four_at
magic = refl

-- a header is within the file
pub header_within : (l : List ℕ) (at : ℕ) → is_header l at ≡ true → at + 44 ≤ length l
unfolding is_header
header_within l at e = grind (arith, nat_tests)

module _ (l : List ℕ) (b : ℕ) (h : Header) where
  -- what a transition passes
  pub record Transition (i : ℕ) : Type 0 where
    pub time : is_time (time_at l b i) ≡ true
    pub index : octet_at l (b + 8 * h.timecnt + i) < h.typecnt
    pub above : is_above l b i ≡ true

  -- what a type passes
  pub record TypeOf (j : ℕ) : Type 0 where
    pub some : 0 < offset_at l (b + 9 * h.timecnt) j
    pub below : offset_at l (b + 9 * h.timecnt) j < 183600

  -- what a block passes
  pub record Block : Type 0 where
    pub typecnt : 1 ≤ h.typecnt
    pub within : b + block_length 8 h ≤ length l
    pub transition : (i : ℕ) → i < h.timecnt → Transition i
    pub type : (j : ℕ) → j < h.typecnt → TypeOf j

  transition_of : (i : ℕ) → is_transition l b h i ≡ true → Transition i
  unfolding is_transition
  transition_of i e = record { time = grind (arith, nat_tests); index = grind (arith, nat_tests); above = grind (arith, nat_tests) }

  type_of : (j : ℕ) → is_type l b h j ≡ true → TypeOf j
  unfolding is_type
  type_of j e = record { some = grind (arith, nat_tests); below = grind (arith, nat_tests) }

  pub block : is_block l b h ≡ true → Block
  unfolding is_block
  block e =
      let transitions : each (is_transition l b h) 0 h.timecnt ≡ true = grind (arith, nat_tests) in
      let types : each (is_type l b h) 0 h.typecnt ≡ true = grind (arith, nat_tests) in
      record {
        typecnt = grind (arith, nat_tests);
        within = grind (arith, nat_tests);
        transition = λ i k. transition_of i (each_at (is_transition l b h) 0 h.timecnt transitions i (omega arith) (omega arith));
        type = λ j k. type_of j (each_at (is_type l b h) 0 h.typecnt types j (omega arith) (omega arith));
      }
