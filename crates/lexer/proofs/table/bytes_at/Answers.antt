-- `lexer::table::bytes_at` meets its contract. Assumes nothing.
use mathlib.Core.Path.{◌≡◌, refl, sym, ◌∙◌}
use Prim.Native.Nat.{ℕ, suc, ◌+◌, ◌*◌, ◌-◌, ◌≤◌, ◌<◌, ◌^◌}
use mathlib.Core.List.{List}
use native.Mathlib.Numerals.{add-one}
use native.Mathlib.Omega.{arith}
use lib.ListN.{length, get_or, take, drop, length-take, drop_of_length-le}
use lib.Seq.{drop-cons, get_or-take, get_or-drop}
use Rattle.lexer.specs.Table.{Room}
use Rattle.lexer.proofs.Rooms.{room_begins, room_byte, room_below}
use Rattle.lexer.proofs.table.bytes_at.Goals as goal
use Rattle.lexer.proofs.table.bytes_at.Goals.{After-row_known-1}

-- one byte more
record More (items : List ℕ) (v j b : ℕ) : Type 0 where
  room : Room (v * 256 + b) (length items - (j + 1))
  below : v * 256 + b < 2 ^ 64

more : (items : List ℕ) (v j b : ℕ) → j < length items → b < 256 → Room v (length items - j) → More items v j b
more items v j b l h r =
    let less : length items - j ≡ suc (length items - (j + 1)) = omega arith in
    let next = room_byte v (length items - (j + 1)) b (rw less at r) h in
    record { room = next; below = room_below _ _ next }

-- at the first byte
first : (items : List ℕ) → length items ≤ 8 → Room 0 (length items - 0)
first items h = let e : length items - 0 ≡ length items = omega arith in rw e (room_begins (length items) h)

-- the bytes that are read
module _ (c : After-row_known-1) where
  abbrev items : List ℕ
  items = take (c.args.p + c.args.n - c.args.p) (drop c.args.p c.args.bytes.now)

  byte_below : get_or items c.loop-b.b-index 0 < 256
  byte_below =
      let p = c.args.p in
      let bytes = c.args.bytes.now in
      let is =
      get_or-take (p + c.args.n - p) (drop p bytes) c.loop-b.b-index 0 (omega (arith, c.loop-b-test.true, length-take (p + c.args.n - p) (drop p bytes)))
      ∙ get_or-drop p bytes c.loop-b.b-index 0 in
      rw is (c.type_inv.bytes (p + c.loop-b.b-index)).fits

  next : More items c.loop-b.v c.loop-b.b-index (get_or items c.loop-b.b-index 0)
  next = more items c.loop-b.v c.loop-b.b-index (get_or items c.loop-b.b-index 0) c.loop-b-test.true byte_below c.loop-b.invariant.room

pub loop-b-init : goal.loop-b-init
loop-b-init c =
    let p = c.args.p in
    let n = c.args.n in
    let count = length-take (p + n - p) (drop p c.args.bytes.now) in
    record { room = first _ (omega (arith, count, c.requires)); number = refl }

pub overflow_mul-v : goal.overflow_mul-v
overflow_mul-v c = let m = more _ _ _ 0 c.loop-b-test.true (omega arith) c.loop-b.invariant.room in omega (arith, m.below)

pub overflow_add-v : goal.overflow_add-v
overflow_add-v c = omega (arith, (next (goal.at.overflow_add-v c).After-row_known-1).below)

pub loop-b-preserved : goal.loop-b-preserved
loop-b-preserved c =
    let here = (goal.at.loop-b-preserved c).After-row_known-1 in
    record { room = (next here).room; number = c.loop-b.invariant.number ∙ rw (drop-cons (items here) c.loop-b.b-index 0 c.loop-b-test.true, add-one) refl }

pub returns : goal.returns
returns c =
    let items = take c.args.n (drop c.args.p c.args.bytes.now) in
    let same : c.args.p + c.args.n - c.args.p ≡ c.args.n = omega arith in
    let number = rw same at c.loop-b.invariant.number in
    sym (number ∙ rw (drop_of_length-le items (rw same at c.loop-b-test.false)) refl)
