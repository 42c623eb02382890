-- The row of each step, and its word.
use Rattle.std.specs.Prelude.{ℕ}
use Rattle.mf_machine.specs.declared.view.View.{View}
use Rattle.mf_machine.specs.File.{File}
use Rattle.mf_machine.specs.Steps as row
use Rattle.mf_machine.specs.Words.{number_word, right_word, pins_word, nth_name_word}
use Rattle.mf_machine.specs.Worlds.{Row}
use Rattle.mf_gate.specs.declared.deed.Deed.{Deed}
use Rattle.mf_gate.specs.declared.deed.Deed.TheVariants as deed
use Rattle.mf_gate.specs.Table.{Mine, file_of}

-- the row of a step of this actor
abbrev pub row_of : File → View → Deed → Row
row_of f v deed.Look = row.look_row
row_of f v (deed.Pin slot g) = row.pin_row slot g
row_of f v (deed.Unpin slot g) = row.unpin_row slot g
row_of f v (deed.Close g) = row.close_row g
row_of f v deed.Begin = row.begin_row
row_of f v deed.End = row.end_row
row_of f v (deed.Publish next) = row.publish_row next
row_of f v (deed.See n) = row.see_row f n
row_of f v (deed.Take n) = row.take_row f n
row_of f v (deed.Give n) = row.give_row f n
row_of f v (deed.Birth n) = row.birth_row f n
row_of f v (deed.Born n) = row.born_row f n
row_of f v (deed.Lose n l) = row.lose_row f n l
row_of f v (deed.Lost n l) = row.lost_row f n l
row_of f v (deed.Retake n) = row.retake_row f n
row_of f v (deed.Restored n) = row.restored_row f n
row_of f v (deed.Drop n) = row.drop_row f n
row_of f v (deed.DropAgain n) = row.drop_again_row f v.inside.tried n
row_of f v (deed.Dropped n) = row.dropped_row f n

-- the same for a seat
abbrev pub row_at : Mine → Deed → Row
row_at me d = row_of (file_of me.0.about) me.0.view d

-- its word in the table of a file of q generations
abbrev pub word_in : (q : ℕ) → Deed → ℕ
word_in q deed.Look = number_word
word_in q (deed.Pin slot g) = pins_word g
word_in q (deed.Unpin slot g) = pins_word g
word_in q (deed.Close g) = pins_word g
word_in q deed.Begin = right_word
word_in q deed.End = right_word
word_in q (deed.Publish next) = number_word
word_in q (deed.See n) = nth_name_word q n
word_in q (deed.Take n) = nth_name_word q n
word_in q (deed.Give n) = nth_name_word q n
word_in q (deed.Birth n) = nth_name_word q n
word_in q (deed.Born n) = nth_name_word q n
word_in q (deed.Lose n l) = nth_name_word q n
word_in q (deed.Lost n l) = nth_name_word q n
word_in q (deed.Retake n) = nth_name_word q n
word_in q (deed.Restored n) = nth_name_word q n
word_in q (deed.Drop n) = nth_name_word q n
word_in q (deed.DropAgain n) = nth_name_word q n
word_in q (deed.Dropped n) = nth_name_word q n
