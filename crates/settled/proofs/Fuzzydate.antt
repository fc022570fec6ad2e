-- The promises of `fuzzydate`, and that its calls ask nothing of a caller. Assumes nothing.
use mathlib.Core.Path.{ap}
use mathlib.Core.List.{[]}
use Rattle.board.specs.Boards.{Memory}
use Rattle.settled.proofs.Settled.{Same, Settled, same, Open}
use Rattle.fuzzydate.proofs.fuzzy_version.Reads as fuzzy_version'
use Rattle.fuzzydate.proofs.fuzzy_read.Reads as fuzzy_read'
use Rattle.fuzzydate.proofs.fuzzy_make_ready.Reads as fuzzy_make_ready'
use Rattle.fuzzydate.proofs.fuzzy_run.Reads as fuzzy_run'
use Rattle.fuzzydate.proofs.fuzzy_read_stamp.Reads as fuzzy_read_stamp'
use Rattle.fuzzydate.proofs.fuzzy_write_stamp.Reads as fuzzy_write_stamp'
use Rattle.fuzzydate.proofs.fuzzy_find_word.Reads as fuzzy_find_word'
use Rattle.fuzzydate.proofs.fuzzy_write_phrase.Reads as fuzzy_write_phrase'
use Rattle.fuzzydate.proofs.fuzzy_list_in.Reads as fuzzy_list_in'
use Rattle.fuzzydate.proofs.fuzzy_next.Reads as fuzzy_next'
use Rattle.fuzzydate.proofs.fuzzy_run_in_zone.Reads as fuzzy_run_in_zone'
use Rattle.fuzzydate.proofs.fuzzy_read_in_zone.Reads as fuzzy_read_in_zone'
use Rattle.fuzzydate.proofs.fuzzy_board_make_in.Reads as fuzzy_board_make_in'
use Rattle.fuzzydate.proofs.fuzzy_board_add_in.Reads as fuzzy_board_add_in'
use Rattle.fuzzydate.proofs.fuzzy_board_remove_in.Reads as fuzzy_board_remove_in'
use Rattle.fuzzydate.proofs.fuzzy_board_again_in.Reads as fuzzy_board_again_in'
use Rattle.fuzzydate.proofs.fuzzy_board_head_in.Reads as fuzzy_board_head_in'
use Rattle.fuzzydate.proofs.fuzzy_board_order_in.Reads as fuzzy_board_order_in'

pub fuzzy_version : Settled fuzzy_version'.Post
fuzzy_version = same fuzzy_version'.Post _ _ (λ κs a z e p. p)

pub fuzzy_read : Settled fuzzy_read'.Post × Same fuzzy_read'.Post (λ κs z e. e.1.1.1.0.now)
fuzzy_read = (same fuzzy_read'.Post _ _ (λ κs a z e p. p.0), same fuzzy_read'.Post _ _ (λ κs a z e p. p.1))

pub fuzzy_make_ready : Settled fuzzy_make_ready'.Post × Same fuzzy_make_ready'.Post (λ κs z e. e.1.1.0.now)
fuzzy_make_ready = (same fuzzy_make_ready'.Post _ _ (λ κs a z e p. p.0), same fuzzy_make_ready'.Post _ _ (λ κs a z e p. p.1))

pub fuzzy_run : Settled fuzzy_run'.Post × Same fuzzy_run'.Post (λ κs z e. e.1.1.0.now)
fuzzy_run = (same fuzzy_run'.Post _ _ (λ κs a z e p. p.0), same fuzzy_run'.Post _ _ (λ κs a z e p. p.1))

pub fuzzy_read_stamp : Settled fuzzy_read_stamp'.Post × Same fuzzy_read_stamp'.Post (λ κs z e. e.1.0.now)
fuzzy_read_stamp = (same fuzzy_read_stamp'.Post _ _ (λ κs a z e p. p.0), same fuzzy_read_stamp'.Post _ _ (λ κs a z e p. p.1))

pub fuzzy_write_stamp : Settled fuzzy_write_stamp'.Post × Same fuzzy_write_stamp'.Post (λ κs z e. e.1.0.now)
fuzzy_write_stamp = (same fuzzy_write_stamp'.Post _ _ (λ κs a z e p. p.0), same fuzzy_write_stamp'.Post _ _ (λ κs a z e p. p.1))

pub fuzzy_find_word : Settled fuzzy_find_word'.Post × Same fuzzy_find_word'.Post (λ κs z e. e.1.1.0.now)
fuzzy_find_word = (same fuzzy_find_word'.Post _ _ (λ κs a z e p. p.0), same fuzzy_find_word'.Post _ _ (λ κs a z e p. p.1))

pub fuzzy_write_phrase : Settled fuzzy_write_phrase'.Post × Same fuzzy_write_phrase'.Post (λ κs z e. e.1.0.now)
fuzzy_write_phrase = (same fuzzy_write_phrase'.Post _ _ (λ κs a z e p. p.0), same fuzzy_write_phrase'.Post _ _ (λ κs a z e p. p.1))

pub fuzzy_list_in : Settled fuzzy_list_in'.Post × Same fuzzy_list_in'.Post (λ κs z e. e.1.1.0.now)
fuzzy_list_in = (same fuzzy_list_in'.Post _ _ (λ κs a z e p. p.0), same fuzzy_list_in'.Post _ _ (λ κs a z e p. p.1))

pub fuzzy_next : Settled fuzzy_next'.Post × Same fuzzy_next'.Post (λ κs z e. e.1.1.1.0.now)
fuzzy_next = (same fuzzy_next'.Post _ _ (λ κs a z e p. p.0), same fuzzy_next'.Post _ _ (λ κs a z e p. p.1))

pub fuzzy_run_in_zone :
    Settled fuzzy_run_in_zone'.Post
    × Same fuzzy_run_in_zone'.Post (λ κs z e. e.1.1.1.1.0.now)
    × Same fuzzy_run_in_zone'.Post (λ κs z e. e.1.1.1.1.1.0.now)
fuzzy_run_in_zone = (
  same fuzzy_run_in_zone'.Post _ _ (λ κs a z e p. p.0),
  same fuzzy_run_in_zone'.Post _ _ (λ κs a z e p. p.1.0),
  same fuzzy_run_in_zone'.Post _ _ (λ κs a z e p. p.1.1),
)

pub fuzzy_read_in_zone :
    Settled fuzzy_read_in_zone'.Post
    × Same fuzzy_read_in_zone'.Post (λ κs z e. e.1.1.1.1.1.0.now)
    × Same fuzzy_read_in_zone'.Post (λ κs z e. e.1.1.1.1.1.1.0.now)
fuzzy_read_in_zone = (
  same fuzzy_read_in_zone'.Post _ _ (λ κs a z e p. p.0),
  same fuzzy_read_in_zone'.Post _ _ (λ κs a z e p. p.1.0),
  same fuzzy_read_in_zone'.Post _ _ (λ κs a z e p. p.1.1),
)

pub fuzzy_board_make_in : Settled fuzzy_board_make_in'.Post × Same fuzzy_board_make_in'.Post (λ κs z e. e.0.now) × Same fuzzy_board_make_in'.Post (λ κs z e. e.1.0.now)
fuzzy_board_make_in = (
  same fuzzy_board_make_in'.Post _ _ (λ κs a z e p. p.0 [] []),
  same fuzzy_board_make_in'.Post _ _ (λ κs a z e p. ap (λ (m : Memory). m.lengths) (p.1 [] [])),
  same fuzzy_board_make_in'.Post _ _ (λ κs a z e p. ap (λ (m : Memory). m.state) (p.1 [] [])),
)

pub fuzzy_board_add_in :
    Settled fuzzy_board_add_in'.Post
    × Same fuzzy_board_add_in'.Post (λ κs z e. e.0.now)
    × Same fuzzy_board_add_in'.Post (λ κs z e. e.1.0.now)
    × Same fuzzy_board_add_in'.Post (λ κs z e. e.1.1.0.now)
    × Same fuzzy_board_add_in'.Post (λ κs z e. e.1.1.1.0.now)
fuzzy_board_add_in = (
  same fuzzy_board_add_in'.Post _ _ (λ κs a z e p. p.0),
  same fuzzy_board_add_in'.Post _ _ (λ κs a z e p. ap (λ (m : Memory). m.ready) p.1),
  same fuzzy_board_add_in'.Post _ _ (λ κs a z e p. ap (λ (m : Memory). m.lengths) p.1),
  same fuzzy_board_add_in'.Post _ _ (λ κs a z e p. ap (λ (m : Memory). m.keys) p.1),
  same fuzzy_board_add_in'.Post _ _ (λ κs a z e p. ap (λ (m : Memory). m.state) p.1),
)

pub fuzzy_board_remove_in :
    Settled fuzzy_board_remove_in'.Post
    × Same fuzzy_board_remove_in'.Post (λ κs z e. e.0.now)
    × Same fuzzy_board_remove_in'.Post (λ κs z e. e.1.0.now)
    × Same fuzzy_board_remove_in'.Post (λ κs z e. e.1.1.0.now)
fuzzy_board_remove_in = (
  same fuzzy_board_remove_in'.Post _ _ (λ κs a z e p. p.0 []),
  same fuzzy_board_remove_in'.Post _ _ (λ κs a z e p. ap (λ (m : Memory). m.lengths) (p.1 [])),
  same fuzzy_board_remove_in'.Post _ _ (λ κs a z e p. ap (λ (m : Memory). m.keys) (p.1 [])),
  same fuzzy_board_remove_in'.Post _ _ (λ κs a z e p. ap (λ (m : Memory). m.state) (p.1 [])),
)

pub fuzzy_board_again_in :
    Settled fuzzy_board_again_in'.Post
    × Same fuzzy_board_again_in'.Post (λ κs z e. e.1.1.0.now)
    × Same fuzzy_board_again_in'.Post (λ κs z e. e.1.1.1.0.now)
fuzzy_board_again_in = (
  same fuzzy_board_again_in'.Post _ _ (λ κs a z e p. p.0),
  same fuzzy_board_again_in'.Post _ _ (λ κs a z e p. ap (λ (m : Memory). m.keys) p.1),
  same fuzzy_board_again_in'.Post _ _ (λ κs a z e p. ap (λ (m : Memory). m.state) p.1),
)

pub fuzzy_board_head_in : Settled fuzzy_board_head_in'.Post × Same fuzzy_board_head_in'.Post (λ κs z e. e.1.1.0.now)
fuzzy_board_head_in = (
  same fuzzy_board_head_in'.Post _ _ (λ κs a z e p. p.0 [] []),
  same fuzzy_board_head_in'.Post _ _ (λ κs a z e p. p.1 [] []),
)

pub fuzzy_board_order_in : Settled fuzzy_board_order_in'.Post × Same fuzzy_board_order_in'.Post (λ κs z e. e.1.1.0.now)
fuzzy_board_order_in = (
  same fuzzy_board_order_in'.Post _ _ (λ κs a z e p. p.0 [] []),
  same fuzzy_board_order_in'.Post _ _ (λ κs a z e p. p.1 [] []),
)

pub fuzzy_version_open : Open fuzzy_version'.Asked
fuzzy_version_open κs a = tt

pub fuzzy_read_open : Open fuzzy_read'.Asked
fuzzy_read_open κs a = tt

pub fuzzy_make_ready_open : Open fuzzy_make_ready'.Asked
fuzzy_make_ready_open κs a = tt

pub fuzzy_run_open : Open fuzzy_run'.Asked
fuzzy_run_open κs a = tt

pub fuzzy_read_stamp_open : Open fuzzy_read_stamp'.Asked
fuzzy_read_stamp_open κs a = tt

pub fuzzy_write_stamp_open : Open fuzzy_write_stamp'.Asked
fuzzy_write_stamp_open κs a = tt

pub fuzzy_find_word_open : Open fuzzy_find_word'.Asked
fuzzy_find_word_open κs a = tt

pub fuzzy_write_phrase_open : Open fuzzy_write_phrase'.Asked
fuzzy_write_phrase_open κs a = tt

pub fuzzy_list_in_open : Open fuzzy_list_in'.Asked
fuzzy_list_in_open κs a = tt

pub fuzzy_next_open : Open fuzzy_next'.Asked
fuzzy_next_open κs a = tt

pub fuzzy_run_in_zone_open : Open fuzzy_run_in_zone'.Asked
fuzzy_run_in_zone_open κs a = tt

pub fuzzy_read_in_zone_open : Open fuzzy_read_in_zone'.Asked
fuzzy_read_in_zone_open κs a = tt

pub fuzzy_board_make_in_open : Open fuzzy_board_make_in'.Asked
fuzzy_board_make_in_open κs a = tt

pub fuzzy_board_add_in_open : Open fuzzy_board_add_in'.Asked
fuzzy_board_add_in_open κs a = tt

pub fuzzy_board_remove_in_open : Open fuzzy_board_remove_in'.Asked
fuzzy_board_remove_in_open κs a = tt

pub fuzzy_board_again_in_open : Open fuzzy_board_again_in'.Asked
fuzzy_board_again_in_open κs a = tt

pub fuzzy_board_head_in_open : Open fuzzy_board_head_in'.Asked
fuzzy_board_head_in_open κs a = tt

pub fuzzy_board_order_in_open : Open fuzzy_board_order_in'.Asked
fuzzy_board_order_in_open κs a = tt
