-- What each actor adds to the tally of a file, and the tally.
use Rattle.std.specs.Prelude.{ℕ, ◌+◌, List}
use Rattle.mf_machine.specs.declared.view.View.{View}
use Rattle.mf_machine.specs.Actors.{has, live}
use Rattle.mf_machine.specs.Answers.{Answer, number, begun, opened, closed, unborn, here, lost, not_lost}
use Rattle.mf_machine.specs.Answers.{not_dropped}
use Rattle.mf_machine.specs.Counts.{bit, truth, times, losses, lines, total, all_begun, all_opened}
use Rattle.mf_machine.specs.File.{Opening}
use Rattle.mf_machine.specs.Words as word
use Rattle.mf_machine.specs.Words.{is_lost}

-- 1 where it has the right
abbrev pub right_of : View → ℕ
right_of v = v.build.right

-- its share
abbrev pub share_of : View → ℕ
share_of v = v.share

-- its pins that fell on g once it was closed
abbrev pub stray : ℕ → View → ℕ
stray g v = times g v.strays

-- all its pins on g
abbrev pub pins : ℕ → View → ℕ
pins g v = live g v + stray g v

-- how often it published n
abbrev pub publishings : ℕ → View → ℕ
publishings n v = times n v.made.numbers

-- how often it closed g
abbrev pub closings : ℕ → View → ℕ
closings g v = times g v.made.closings

-- how often it put the name
abbrev pub puts : ℕ → View → ℕ
puts n v = times n v.made.changes.put

-- how often it lost the name
abbrev pub loses : ℕ → View → ℕ
loses n v = losses n v.made.changes.lost

-- how often it lost the name with this line
abbrev pub loses_by : ℕ → ℕ → View → ℕ
loses_by n l v = lines n l v.made.changes.lost

-- how often it restored the name
abbrev pub restores : ℕ → View → ℕ
restores n v = times n v.made.changes.restored

-- how often it dropped the name
abbrev pub drops : ℕ → View → ℕ
drops n v = times n v.made.changes.dropped

-- 1 where it is inside a get of the name
abbrev pub in_get : ℕ → View → ℕ
in_get n v = has n v.inside.getting

-- 1 where it is inside a birth of it
abbrev pub in_birth : ℕ → View → ℕ
in_birth n v = has n v.inside.bearing

-- 1 where it is inside a retake of it
abbrev pub in_retake : ℕ → View → ℕ
in_retake n v = has n v.inside.retaking

-- 1 where it is inside a lose of it
abbrev pub in_lose : ℕ → View → ℕ
in_lose n v = has n v.inside.losing

-- 1 where it is inside a drop of it
abbrev pub in_drop : ℕ → View → ℕ
in_drop n v = has n v.inside.dropping

-- the begins answered true in all its Mets
abbrev pub begun_of : View → ℕ
begun_of v = v.own.begun + all_begun v.gone

-- the pins made on an open g in all its Mets
abbrev pub opened_of : ℕ → View → ℕ
opened_of g v = times g v.own.opened + all_opened g v.gone

-- what makes a name Here
abbrev pub raises : ℕ → View → ℕ
raises n v = puts n v + restores n v + in_birth n v + in_retake n v

-- what makes it not Here
abbrev pub sinks : ℕ → View → ℕ
sinks n v = loses n v + drops n v

-- what takes it away, if only for a while
abbrev pub hides : ℕ → View → ℕ
hides n v = loses n v + drops n v + in_lose n v + in_drop n v

-- 1 for the word of a lost name
abbrev pub lost_bit : ℕ → ℕ
lost_bit w = truth (is_lost w)

-- what the opening adds to the ground of an answer: how often the number was published; how often the
-- generation was closed; how often the name was lost with this line; what can have made the name Here; what can have
-- made a lose, and a discard, find nothing; the begins answered true, and the pins made on an open g
abbrev pub had : Opening → Answer → ℕ
had k (number n) = bit k.number n
had k (closed g) = truth (k.closed g)
had k (unborn n) = bit (k.name n) word.unborn
had k (lost n l) = bit (k.name n) (word.lost l)
had k (here n) = bit (k.name n) word.here
had k (not_lost n) = bit (k.name n) word.unborn + bit (k.name n) word.dropped + lost_bit (k.name n)
had k (not_dropped n) = bit (k.name n) word.unborn + bit (k.name n) word.dropped
had k a = 0

-- what an actor adds to it
abbrev pub adds : Answer → View → ℕ
adds (number n) v = publishings n v
adds (closed g) v = closings g v
adds (lost n l) v = loses_by n l v
adds (here n) v = raises n v
adds (not_lost n) v = sinks n v
adds (not_dropped n) v = hides n v
adds begun v = begun_of v
adds (opened g) v = opened_of g v
adds a v = 0

-- a tally: for each answer a sum over the opening and all actors, which never falls
abbrev pub Tally : Type 0
Tally = Answer → ℕ

-- the tally of these actors
abbrev pub tally : Opening → List View → Tally
tally k vs a = had k a + total (adds a) vs
