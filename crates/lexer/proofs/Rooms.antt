-- Bytes as one number, one after the other, and the room that a u64 has for them. Assumes nothing.
use mathlib.Core.Path.{◌≡◌, sym, ap, ◌∙◌}
use mathlib.Core.List.{List, [], ◌∷◌}
use Prim.Native.Nat.{ℕ, zero, suc, ◌+◌, ◌*◌, ◌^◌, ◌≤◌, ◌<◌}
use native.Mathlib.Nat.{le_trans, pow-succ', pow-le-pow_right, one-mul, add-mul, mul_assoc, mul-le-mul_right}
use native.Mathlib.Nat.{le-mul_of_pos_right}
use native.Mathlib.Omega.{arith}
use borrow.Author.Tests.{lt-ltb}
use lib.ListN.{length}
use Rattle.digits.proofs.Order.{Tri, below, equal, above, tri}
use Rattle.lexer.specs.Table.{filler, fixed, bytes_from, weight_of, Room}
use Rattle.lexer.proofs.Cells.{length-fixed}
use Rattle.lexer.proofs.Keys.{filler_most}

pow_pos : (p : ℕ) → 0 < 256 ^ p
pow_pos p = pow-le-pow_right {n = 256} (omega arith) {i = 0} {j = p} (omega arith)

-- at most 8 bytes have room
pub room_begins : (n : ℕ) → n ≤ 8 → Room 0 n
room_begins n h = record { most = rw (one-mul (256 ^ n)) (pow-le-pow_right {n = 256} (omega arith) {i = n} {j = 8} h) }

-- a byte takes one place of it
pub room_byte : (v p c : ℕ) → Room v (suc p) → c < 256 → Room (v * 256 + c) p
room_byte v p c r h =
    let q = 256 ^ p in
    let more : suc (v * 256 + c) ≤ suc v * 256 = omega arith in
    let e : suc v * 256 * q ≡ suc v * 256 ^ suc p = mul_assoc (suc v) 256 q ∙ ap (◌*◌ (suc v)) (sym (pow-succ' 256 p)) in
    record { most = le_trans (mul-le-mul_right q more) (rw e r.most) }

-- what has room is a u64
pub room_below : (v p : ℕ) → Room v p → v < 2 ^ 64
room_below v p r = le_trans (le-mul_of_pos_right (suc v) (pow_pos p)) r.most

-- and so is what fillers make of it
pub fillers_below : (p v : ℕ) → Room v p → bytes_from v (fixed p []) < 2 ^ 64
fillers_below zero v r = room_below v 0 r
fillers_below (suc p) v r = fillers_below p (v * 256 + filler p) (room_byte v p (filler p) r (omega (arith, filler_most p)))

-- bytes behind a number: the number by its weight, and what they say alone
bytes_apart : (l : List ℕ) (v : ℕ) → bytes_from v l ≡ v * 256 ^ length l + bytes_from 0 l
bytes_apart [] v = omega arith
bytes_apart (b ∷ l) v =
    let q = 256 ^ length l in
    let e : v * 256 ^ suc (length l) ≡ v * 256 * q = ap (◌*◌ v) (pow-succ' 256 (length l)) ∙ sym (mul_assoc v 256 q) in
    let d : (v * 256 + b) * q ≡ v * 256 * q + b * q = add-mul (v * 256) b q in
    let z : (0 * 256 + b) * q ≡ b * q = ap (λ (n : ℕ). n * q) (omega arith) in
    omega (arith, bytes_apart l (v * 256 + b), bytes_apart l (0 * 256 + b))

-- where there is room, the weight is 256 to the number of places, or it weighs nothing
weighed : (v p : ℕ) → p ≤ 8 → Room v p → v * weight_of p ≡ v * 256 ^ p
weighed v p h r = go (tri p 8)
  where
    go : Tri p 8 → v * weight_of p ≡ v * 256 ^ p
    go (below l) = simp (lt-ltb p 8 l)
    go (equal e) = let m : suc v * 256 ^ 8 ≤ 2 ^ 64 = rw e at r.most in let n : v ≡ 0 = omega arith in rw (e, n)
    go (above l) = absurd (omega arith)

pub filled_is : (v p : ℕ) → p ≤ 8 → Room v p → v * weight_of p + bytes_from 0 (fixed p []) ≡ bytes_from v (fixed p [])
filled_is v p h r = rw (weighed v p h r) (sym (rw (length-fixed p []) at (bytes_apart (fixed p []) v)))
