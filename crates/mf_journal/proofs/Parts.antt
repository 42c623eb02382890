-- Two lists that differ in one part at most, written at one place.
use Rattle.std.proofs.Common.{◌≡◌, inl, inr, ℕ, ◌+◌, ◌-◌, ◌≤◌, min, max, List, ◌++◌, length, take}
use Rattle.std.proofs.Common.{drop}
use Rattle.std.proofs.Common.{sym, ap, subst, ◌∙◌, arith, append_assoc, take-append-drop}
use Rattle.std.proofs.lemmas.Bool.{cases_lt}
use Rattle.std.proofs.lemmas.List.{drop-drop, take-take, take_all}
use Rattle.std.proofs.lemmas.List.Edits.{length-between, split_between}
use Rattle.std.specs.List.{between}
use Rattle.mf_journal.specs.Contents.{AreSameOutside}
use Rattle.mf_journal.specs.Images.{length-over, over_end, over_front, take_widened}
use Rattle.mf_journal.specs.Memory.{over, spliced, widened}

-- the same lists, whatever part is named
pub same_lists : (low high : ℕ) (a b : List ℕ) → b ≡ a → high ≤ length a
    → AreSameOutside low high a b
same_lists low high a b is within = record {
  size = ap length is;
  front = ap (take low) (sym is);
  end = ap (drop high) (sym is);
  within = within;
}

over_beyond : (at n : ℕ) (xs old : List ℕ) → at + length xs ≤ n
    → drop n (over at xs old) ≡ drop n old
over_beyond at n xs old le =
    let k = at + length xs in
    let is : k + (n - k) ≡ n = omega arith in
    subst (λ i. drop i (over at xs old) ≡ drop i old) is
    (sym (drop-drop (n - k) k (over at xs old))
    ∙ ap (drop (n - k)) (over_end at xs old)
    ∙ drop-drop (n - k) k old)

module _ (low high : ℕ) (a b : List ℕ) (s : AreSameOutside low high a b) where
  same_front : (m : ℕ) → m ≤ low → take m a ≡ take m b
  same_front m le = sym (take-take m low a le) ∙ ap (take m) s.front ∙ take-take m low b le

  same_end : (n : ℕ) → high ≤ n → drop n a ≡ drop n b
  same_end n le =
      let is : high + (n - high) ≡ n = omega arith in
      subst (λ i. drop i a ≡ drop i b) is
      (sym (drop-drop (n - high) high a)
      ∙ ap (drop (n - high)) s.end
      ∙ drop-drop (n - high) high b)

  -- with zeros behind both
  wide_front : (m n : ℕ) → m ≤ low → take m (widened n a) ≡ take m (widened n b)
  wide_front m n le = elim (cases_lt (length a) m) [
    | inl beyond ↦
        let same : a ≡ b =
        sym (take_all low a (omega arith))
        ∙ s.front
        ∙ take_all low b (omega (arith, s.size)) in
        ap (λ l. take m (widened n l)) same
    | inr within ↦
        take_widened m n a within
        ∙ same_front m le
        ∙ sym (take_widened m n b (omega (arith, s.size)))
  ]

  -- the part takes in what is written
  same_after : (at : ℕ) (xs ys : List ℕ) → length ys ≡ length xs
      → AreSameOutside (min low at) (max high (at + length xs)) (over at xs a) (over at ys b)
  same_after at xs ys size =
      let m = min low at in
      let n = max high (at + length xs) in
      record {
        size = omega (arith, length-over at xs a, length-over at ys b, size, s.size);
        front = over_front at m xs a (omega arith)
            ∙ wide_front m (at + length xs) (omega arith)
            ∙ ap (λ k. take m (widened (at + k) b)) (sym size)
            ∙ sym (over_front at m ys b (omega arith));
        end = over_beyond at n xs a (omega arith)
            ∙ same_end n (omega arith)
            ∙ sym (over_beyond at n ys b (omega (arith, size)));
        within = omega (arith, s.within, length-over at xs a);
      }

  -- without a part they are the same
  pub same_whole : high ≤ low → b ≡ a
  same_whole le =
      sym (take-append-drop high b)
      ∙ ap (λ l. l ++ drop high b) (sym (same_front high le))
      ∙ ap (λ l. take high a ++ l) (sym s.end)
      ∙ take-append-drop high a

  -- with the part of one copied they are the same
  pub same_copied : low ≤ high → spliced low (between low high a) b ≡ a
  same_copied le =
      let part = between low high a in
      let size : low + length part ≡ high = omega (arith, length-between a low high s.within) in
      append_assoc (take low b) part (drop (low + length part) b)
      ∙ ap (λ n. take low b ++ (part ++ drop n b)) size
      ∙ ap (λ l. l ++ (part ++ drop high b)) (sym s.front)
      ∙ ap (λ l. take low a ++ (between low high a ++ l)) (sym s.end)
      ∙ sym (split_between a low high le)

  -- the same by what was computed
  pub same_now : (at : ℕ) (xs ys list torn : List ℕ) (m n end : ℕ) → m ≡ min low at
      → n ≡ max high end → end ≡ at + length xs → list ≡ over at xs a → torn ≡ over at ys b
      → length ys ≡ length xs → AreSameOutside m n list torn
  same_now at xs ys list torn m n end m_is n_is end_is list_is torn_is size =
      let far : n ≡ max high (at + length xs) = n_is ∙ ap (max high) end_is in
      subst (λ l. AreSameOutside m n l torn) (sym list_is)
      (subst (λ l. AreSameOutside m n (over at xs a) l) (sym torn_is)
      (subst (λ i. AreSameOutside i n (over at xs a) (over at ys b)) (sym m_is)
      (subst (λ i. AreSameOutside (min low at) i (over at xs a) (over at ys b)) (sym far)
      (same_after at xs ys size))))
