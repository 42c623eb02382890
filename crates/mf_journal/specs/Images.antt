-- What a read gives and what the crash leaves are images, and a sync leaves one.
use Rattle.std.specs.Prelude.{◌≡◌, ℕ, suc, ◌+◌, ◌-◌, ◌≤◌, min, max, List, [], ◌∷◌, ◌++◌, length}
use Rattle.std.specs.Prelude.{take, drop, replicate, Option, Some, None, refl}
use Rattle.std.proofs.Common.{inl, inr, sym, ap, subst, ◌∙◌, arith, length-append, length-drop}
use Rattle.std.proofs.lemmas.List.{append-nil, take-append-le, take-take, drop_all, drop_at}
use Rattle.std.proofs.lemmas.List.{drop-append-le, length-take, length-replicate}
use Rattle.std.proofs.lemmas.Bool.{cases_lt}
use Rattle.mf_journal.specs.Crash.{TornAt}
use Rattle.mf_journal.specs.Calls.{settled, first_sync}
use Rattle.mf_journal.specs.Memory.{widened, spliced, over, shredded, played, kept, left_by}
use Rattle.mf_journal.specs.Memory.{MayStep, IsImage, LeftIn, LeftSince}
use Rattle.mf_journal.specs.declared.log.Write.{Write}
use Rattle.mf_journal.specs.declared.history.History.{History}

pub length-shredded : (i : ℕ) (xs : List ℕ) → length (shredded i xs) ≡ length xs
length-shredded i [] = refl
length-shredded i (x ∷ xs) = ap suc (length-shredded (i + 1) xs)

pub length-widened : (n : ℕ) (xs : List ℕ) → length (widened n xs) ≡ max (length xs) n
length-widened n xs =
    omega (
      arith,
      length-append xs (replicate (n - length xs) 0),
      length-replicate {A = ℕ} (n - length xs) 0,
    )

pub drop_widened : (n : ℕ) (xs : List ℕ) → drop n (widened n xs) ≡ drop n xs
drop_widened n xs = elim (cases_lt (length xs) n) [
  | inl short ↦
      drop_all n (widened n xs) (omega (arith, length-widened n xs))
      ∙ sym (drop_all n xs (omega arith))
  | inr long ↦
      let none : n - length xs ≡ 0 = omega arith in
      drop-append-le n xs (replicate (n - length xs) 0) long
      ∙ ap (λ k. drop n xs ++ replicate {A = ℕ} k 0) none
      ∙ append-nil (drop n xs)
]

pub take_widened : (m n : ℕ) (xs : List ℕ) → m ≤ length xs → take m (widened n xs) ≡ take m xs
take_widened m n xs short = take-append-le m xs (replicate (n - length xs) 0) short

pub length-spliced : (at : ℕ) (bytes old : List ℕ) → at + length bytes ≤ length old
    → length (spliced at bytes old) ≡ length old
length-spliced at bytes old fits = omega (
  arith,
  length-append (take at old ++ bytes) (drop (at + length bytes) old),
  length-append (take at old) bytes,
  length-take at old,
  length-drop (at + length bytes) old,
)

pub length-over : (at : ℕ) (bytes old : List ℕ)
    → length (over at bytes old) ≡ max (length old) (at + length bytes)
length-over at bytes old =
    let wide = length-widened (at + length bytes) old in
    omega (arith, wide, length-spliced at bytes (widened (at + length bytes) old) (omega arith))

pub over_front : (at m : ℕ) (bytes old : List ℕ) → m ≤ at
    → take m (over at bytes old) ≡ take m (widened (at + length bytes) old)
over_front at m bytes old le =
    let w = widened (at + length bytes) old in
    let end = drop (at + length bytes) w in
    let wide = length-widened (at + length bytes) old in
    take-append-le m (take at w ++ bytes) end
    (omega (arith, length-append (take at w) bytes, length-take at w))
    ∙ take-append-le m (take at w) bytes (omega (arith, length-take at w))
    ∙ take-take m at w le

pub over_end : (at : ℕ) (bytes old : List ℕ)
    → drop (at + length bytes) (over at bytes old) ≡ drop (at + length bytes) old
over_end at bytes old =
    let w = widened (at + length bytes) old in
    let wide = length-widened (at + length bytes) old in
    drop_at (take at w ++ bytes) (drop (at + length bytes) w) (at + length bytes)
    (omega (arith, length-append (take at w) bytes, length-take at w))
    ∙ drop_widened (at + length bytes) old

pub over_torn : (at n : ℕ) (bytes old : List ℕ) → length bytes ≡ n
    → TornAt at n old (over at bytes old)
over_torn at n bytes old size = record {
  before = over_front at (min at (length old)) bytes old (omega arith)
      ∙ take_widened (min at (length old)) (at + length bytes) old (omega arith);
  behind = subst (λ k. drop (at + k) (over at bytes old) ≡ drop (at + k) old) size
      (over_end at bytes old);
  no_shorter = omega (arith, length-over at bytes old);
  no_longer = omega (arith, length-over at bytes old);
}

-- a write that isn't past the end
pub over_within : (at : ℕ) (bytes old : List ℕ) → at ≤ length old
    → over at bytes old ≡ spliced at bytes old
over_within at bytes old within =
    let w = widened (at + length bytes) old in
    ap (λ front. front ++ bytes ++ drop (at + length bytes) w)
    (take_widened at (at + length bytes) old within)
    ∙ ap (λ end. take at old ++ bytes ++ end) (drop_widened (at + length bytes) old)

length-kept : (sync : Option ℕ) (bytes : List ℕ) → length (kept sync bytes) ≡ length bytes
length-kept (Some n) bytes = refl
length-kept None bytes = length-shredded 0 bytes

played_steps : (sync : Option ℕ) (at : ℕ) (bytes old : List ℕ)
    → MayStep sync at bytes old (over at bytes old)
played_steps (Some n) at bytes old = refl
played_steps None at bytes old = over_torn at (length bytes) bytes old refl

kept_steps : (sync : Option ℕ) (at : ℕ) (bytes old : List ℕ)
    → MayStep sync at bytes old (over at (kept sync bytes) old)
kept_steps (Some n) at bytes old = refl
kept_steps None at bytes old =
    over_torn at (length bytes) (shredded 0 bytes) old (length-shredded 0 bytes)

pub played_is_image : (start : List ℕ) (ws : List Write) → IsImage start ws (played start ws)
played_is_image start [] = refl
played_is_image start (w ∷ ws) =
    (played start ws, played_is_image start ws, played_steps w.sync w.at w.bytes (played start ws))

pub left_is_image : (start : List ℕ) (ws : List Write) → IsImage start ws (left_by start ws)
left_is_image start [] = refl
left_is_image start (w ∷ ws) =
    (left_by start ws, left_is_image start ws, kept_steps w.sync w.at w.bytes (left_by start ws))

pub played_settled : (start : List ℕ) (n : ℕ) (ws : List Write)
    → played start (settled n ws) ≡ played start ws
played_settled start n [] = refl
played_settled start n (w ∷ ws) = ap (over w.at w.bytes) (played_settled start n ws)

kept_settled : (sync : Option ℕ) (n : ℕ) (bytes : List ℕ) → kept (first_sync sync n) bytes ≡ bytes
kept_settled (Some k) n bytes = refl
kept_settled None n bytes = refl

pub left_settled : (start : List ℕ) (n : ℕ) (ws : List Write)
    → left_by start (settled n ws) ≡ played start ws
left_settled start n [] = refl
left_settled start n (w ∷ ws) =
    ap (λ bytes. over w.at bytes (left_by start (settled n ws))) (kept_settled w.sync n w.bytes)
    ∙ ap (over w.at w.bytes) (left_settled start n ws)

settled_step : (sync : Option ℕ) (n at : ℕ) (bytes old new : List ℕ)
    → MayStep (first_sync sync n) at bytes old new
    → new ≡ over at bytes old
settled_step (Some k) n at bytes old new is = is
settled_step None n at bytes old new is = is

-- after a sync there is one image
pub only_settled : (start : List ℕ) (n : ℕ) (ws : List Write) (c : List ℕ)
    → IsImage start (settled n ws) c
    → c ≡ played start ws
only_settled start n [] c is = is
only_settled start n (w ∷ ws) c is =
    settled_step w.sync n w.at w.bytes is.0 c is.2
    ∙ ap (over w.at w.bytes) (only_settled start n ws is.0 is.1)

-- since this moment there is no other
pub only_since : (k : History) (c : List ℕ) → LeftSince k k.log.calls c
    → IsImage k.origin.first k.log.writes c
only_since k c (inl now) = now
only_since k c (inr past) =
    let none : k.log.calls - k.log.calls ≡ 0 = omega arith in
    absurd (subst (λ n. LeftIn k.origin.first (take n k.before) c) none past)

pub read_is_image : (k : History) (bytes : List ℕ) → bytes ≡ played k.origin.first k.log.writes
    → IsImage k.origin.first k.log.writes bytes
read_is_image k bytes is =
    subst (IsImage k.origin.first k.log.writes) (sym is)
    (played_is_image k.origin.first k.log.writes)
