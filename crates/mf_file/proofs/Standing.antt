-- What is in memory is what the record says, after a sync.
use Rattle.std.proofs.Common.{◌≡◌, Bool, true, false, Option, Some, None, List, [], ◌∷◌, ℕ, ◌+◌}
use Rattle.std.proofs.Common.{if◌then◌else◌, refl, sym, ap, subst, ◌∙◌}
use Rattle.mf_journal.specs.Calls.{after, first_sync, settled}
use Rattle.mf_journal.specs.Calls as call
use Rattle.mf_journal.specs.Images.{only_settled, played_settled}
use Rattle.mf_journal.specs.Memory.{IsImage, next, played}
use Rattle.mf_journal.specs.declared.history.History.{History}
use Rattle.mf_journal.specs.declared.log.Log.{Log}
use Rattle.mf_journal.specs.declared.log.Write.{Write}
use Rattle.mf_file.specs.Calls.{flushed, is_lasting, kept, made, pieces}
use Rattle.mf_file.specs.File.{IsStored}
use Rattle.mf_file.specs.declared.raw.Asked.{Asked}

-- the note that was picked where the call didn't fail
pub chosen : (fails : Bool) (a b : Log) (k now : History) → now ≡ next (if fails then a else b) k
    → fails ≡ false
    → now ≡ next b k
chosen fails a b k now picked runs = picked ∙ ap (λ f. next (if f then a else b) k) runs

lasting : (sync : Option ℕ) (n : ℕ) → is_lasting (first_sync sync n) ≡ true
lasting (Some k) n = refl
lasting None n = refl

pieces_settled : (n : ℕ) (ws : List Write) → pieces (settled n ws) ≡ kept (pieces ws)
pieces_settled n [] = refl
pieces_settled n (w ∷ ws) =
    ap (λ f. (w.at, w.bytes, f) ∷ pieces (settled n ws)) (lasting w.sync n)
    ∙ ap (λ ps. (w.at, w.bytes, true) ∷ ps) (pieces_settled n ws)

synced : (bytes : List ℕ) (dead : Bool) (k : History) (calls now : List Asked)
    → IsStored bytes dead k calls
    → now ≡ flushed true ∷ calls → IsStored bytes dead (next (after call.sync k.log) k) now
synced bytes dead k calls now s asked = record {
  read = s.read ∙ sym (played_settled k.origin.first (k.log.calls + 1) k.log.writes);
  fine = s.fine;
  asked = pieces_settled (k.log.calls + 1) k.log.writes ∙ ap kept s.asked ∙ ap made (sym asked);
}

pub synced_at : (bytes : List ℕ) (dead : Bool) (k : History) (calls now : List Asked)
    (history : History)
    → IsStored bytes dead k calls → now ≡ flushed true ∷ calls
    → history ≡ next (after call.sync k.log) k
    → IsStored bytes dead history now
synced_at bytes dead k calls now history s asked is =
    subst (λ k. IsStored bytes dead k now) (sym is) (synced bytes dead k calls now s asked)

pub only : (k now : History) (bytes c : List ℕ) → now ≡ next (after call.sync k.log) k
    → bytes ≡ played k.origin.first k.log.writes → IsImage now.origin.first now.log.writes c
    → c ≡ bytes
only k now bytes c is read left =
    only_settled k.origin.first _ k.log.writes c
    (subst (λ n. IsImage n.origin.first n.log.writes c) is left)
    ∙ sym read
