use Rattle.std.proofs.Common.{rules, ◌≡◌, ℕ, ◌+◌, ◌<◌, false, List, length, get_or, Option, None, IsTrue, sym}
use Rattle.std.proofs.Common.{ap, ◌∙◌, subst, arith, get_or-set_other}
use Rattle.std.specs.Mem.Slots.{slots_items, slots_filled, slots_len}
use Rattle.mf_machine.proofs.Lists.{read_at}
use Rattle.mf_vault.specs.declared.answers.Rest.TheVariants as rest
use Rattle.mf_gate.specs.Resting.{rest_from, IsResting}
use Rattle.mf_gate.proofs.Leaving.{set_on}
use Rattle.mf_gate.proofs.ending.rests_from.Goals as goal

pub rest_of-requires : goal.rest_of-requires
rest_of-requires c = let i = c.loop-n.invariant in let n = c.loop-n.n in let b = c.args.before in
    let w : get_or (slots_items c.args.ended.now.words) (b + n) 0 ≡ c.word.result =
    ap (λ r. get_or (slots_items r) (b + n) 0) (sym i.words)
    ∙ read_at (slots_items c.loop-n.ended.words) (b + n) c.word.result 0 c.word.ensures in
    let s : get_or (slots_items c.args.ended.now.slots) n None ≡ c.take.result =
    ap (λ (l : List (Option (List ℕ))). get_or l n None) (sym i.items)
    ∙ read_at (slots_items c.loop-n.ended.slots) n c.take.result None c.take.ensures.value in
    subst (λ (z : ℕ × Option (List ℕ)). IsResting z.0 z.1) (λ j. (w j, s j)) (c.requires.resting n (search rules))

pub loop-n-preserved : goal.loop-n-preserved
loop-n-preserved c = let i = c.loop-n.invariant in let n = c.loop-n.n in let b = c.args.before in
    let old = c.args.ended.now in
    let w : get_or (slots_items old.words) (b + n) 0 ≡ c.word.result =
    ap (λ r. get_or (slots_items r) (b + n) 0) (sym i.words)
    ∙ read_at (slots_items c.loop-n.ended.words) (b + n) c.word.result 0 c.word.ensures in
    let s : get_or (slots_items old.slots) n None ≡ c.take.result =
    ap (λ (l : List (Option (List ℕ))). get_or l n None) (sym i.items)
    ∙ read_at (slots_items c.loop-n.ended.slots) n c.take.result None c.take.ensures.value in
    let others = c.take.ensures.others in let ok = c.loop-n.ended.slots.ok.1 in
    let low : n < length c.loop-n.names.items = search rules in
    let inside : n < slots_len old.slots = search rules in
    let filled = slots_filled c.loop-n.ended.slots in
    let long : n < length filled = search rules in
    record {
      so_long = search rules;
      words = others.3 ∙ i.words;
      items = others.0 ∙ i.items;
      slots = others.2 ∙ i.slots;
      left = λ j l m. subst (λ z. IsTrue (get_or z j false)) (sym others.1)
          (subst IsTrue (sym (get_or-set_other filled n j false false (λ e. omega arith))) (i.left j (omega arith) m));
      taken = λ j l. ap (λ z. get_or z j false) others.1
          ∙ set_on filled n false false (λ h q. q ≡ false) long (search rules) i.taken j l;
      names_are = set_on c.loop-n.names.items n c.rest_of.result rest.Unborn
          (λ h r. r ≡ rest_from (get_or (slots_items old.words) (b + h) 0) (get_or (slots_items old.slots) h None)) low
          (c.rest_of.ensures ∙ (λ j. rest_from (sym w j) (sym s j))) i.names_are;
    }
