-- The four calls that add a record: what a crash leaves after each of them.
use Rattle.std.proofs.Common.{◌≡◌, inl, ℕ, ◌+◌, ◌≤◌, List, [], ◌∷◌, ◌++◌, length, get_or, drop, sym}
use Rattle.std.proofs.Common.{ap, subst, ◌∙◌, arith, append_assoc, length-append}
use Rattle.mf_journal.specs.Crash.{Overlays, TornAt, ComesBy, IsLasting, Advances}
use Rattle.mf_journal.specs.declared.disk.Disk as disk
use Rattle.mf_journal.specs.Moments.{AnyMoment}
use Rattle.mf_journal.specs.Frames.{front, framed, IsSettled, IsBeforeOrAfter, IsShort, IsJournal}
use Rattle.mf_journal.proofs.Blocks.{torn_behind, torn_gate, held_behind, held_gate, one_more}
use Rattle.mf_journal.proofs.Blocks.{either, front_push}
use Rattle.mf_journal.proofs.Steps.{Safe, started, goes_on, stays}

module _ {D : Type 0} (g : disk.Ghosts D) where
  abbrev calls : D → ℕ
  calls d = (g.log d).calls

  -- what a call of either kind says, whatever its answer
  abbrev pub Writes : ℕ → List ℕ → D → D → Type 0
  Writes at bytes d e = ComesBy (TornAt at (length bytes)) (g.leaves d) (g.leaves e)
      × Advances (calls d) (calls e) (g.left_since d) (g.left_since e) (g.leaves e)

  abbrev pub Syncs : D → D → Type 0
  Syncs d e = ((c : List ℕ) → g.leaves e c → g.leaves d c)
      × Advances (calls d) (calls e) (g.left_since d) (g.left_since e) (g.leaves e)

  -- what it says where it succeeded
  abbrev pub Wrote : ℕ → List ℕ → D → D → Type 0
  Wrote at bytes d e = at ≤ length (g.reads d) → Overlays at bytes (g.reads d) (g.reads e)

  abbrev pub Synced : D → D → Type 0
  Synced d e = IsLasting (g.reads d) (g.leaves e) × (g.reads e ≡ g.reads d)

  module _ (place : ℕ) (ps : List (List ℕ)) (p body : List ℕ) (short : IsShort p)
      (is : body ≡ framed p ++ 0 ∷ []) (d0 d1 d2 d3 d4 : D)
      (rest : IsSettled (g.reads d0) (g.leaves d0) place ps)
      (only : (c : List ℕ) → g.left_since d0 (calls d0) c → g.leaves d0 c) where
    abbrev P : List ℕ → Type 0
    P = IsBeforeOrAfter ps p

    abbrev At : D → Type 0
    At d = Safe calls g.left_since g.leaves d0 P d

    abbrev old : IsJournal (g.reads d0) ps
    old = rest.stands

    abbrev junk : List ℕ
    junk = drop (place + 1 + length body) (g.reads d0)

    abbrev tail : List ℕ
    tail = framed p ++ 0 ∷ junk

    body_then : (l : List ℕ) → body ++ l ≡ framed p ++ 0 ∷ l
    body_then l = ap (λ b. b ++ l) is ∙ append_assoc (framed p) (0 ∷ []) l

    before_it : (c : List ℕ) → g.leaves d0 c → P c
    before_it c left = inl (subst (λ l. IsJournal l ps) (sym (rest.lasting c left)) old)

    torn_first : ComesBy (TornAt (place + 1) (length body)) (g.leaves d0) (g.leaves d1)
        → (c : List ℕ) → g.leaves d1 c → P c
    torn_first follows c left =
        let from = follows c left in
        let torn = subst (λ l. TornAt (place + 1) (length body) l c) (rest.lasting from.0 from.1)
        from.2 in
        inl (record {
          gate = old.gate;
          rest = drop (place + 1) c;
          is = torn_behind (front ps) old.gate old.rest (g.reads d0) c place rest.at old.is
              (length body) torn;
          shut = old.shut;
          short = old.short;
        })

    written : Writes (place + 1) body d0 d1 → At d1
    written w =
        let began = started calls g.left_since g.leaves d0 P only before_it in
        goes_on calls g.left_since g.leaves d0 P d0 d1 began w.1 (torn_first w.0)

    synced : At d1 → Syncs d1 d2 → At d2
    synced safe s = stays calls g.left_since g.leaves d0 P d1 d2 safe s.1 s.0

    -- the frame stands behind the gate, and it is lasting
    staged : Wrote (place + 1) body d0 d1 → Synced d1 d2 → g.reads d2 ≡ front ps ++ old.gate ∷ tail
    staged wrote s =
        let within : place + 1 ≤ length (g.reads d0) =
        omega (arith, ap length old.is, length-append (front ps) (old.gate ∷ old.rest), rest.at) in
        s.1
        ∙ held_behind (front ps) old.gate old.rest (g.reads d0) (g.reads d1) place rest.at old.is
        body (wrote within)
        ∙ ap (λ l. front ps ++ old.gate ∷ l) (body_then junk)

    torn_second : Wrote (place + 1) body d0 d1 → Synced d1 d2
        → ComesBy (TornAt place 1) (g.leaves d2) (g.leaves d3) → (c : List ℕ) → g.leaves d3 c → P c
    torn_second wrote s follows c left =
        let from = follows c left in
        let same : from.0 ≡ g.reads d2 = s.0 from.0 from.1 ∙ sym s.1 in
        let torn = subst (λ l. TornAt place 1 l c) same from.2 in
        either ps p junk c (get_or c place 0) old.short short
        (torn_gate (front ps) old.gate tail (g.reads d2) c place rest.at (staged wrote s) torn)

    gated : Wrote (place + 1) body d0 d1 → At d2 → Synced d1 d2 → Writes place (165 ∷ []) d2 d3
        → At d3
    gated wrote safe s w =
        goes_on calls g.left_since g.leaves d0 P d2 d3 safe w.1 (torn_second wrote s w.0)

    synced_again : At d3 → Syncs d3 d4 → At d4
    synced_again safe s = stays calls g.left_since g.leaves d0 P d3 d4 safe s.1 s.0

    opened : Wrote (place + 1) body d0 d1 → Synced d1 d2 → Wrote place (165 ∷ []) d2 d3
        → Synced d3 d4
        → g.reads d4 ≡ front ps ++ 165 ∷ tail
    opened wrote s wrote_gate t =
        let now = staged wrote s in
        let within : place ≤ length (g.reads d2) =
        omega (arith, ap length now, length-append (front ps) (old.gate ∷ tail), rest.at) in
        t.1
        ∙ held_gate (front ps) old.gate tail (g.reads d2) (g.reads d3) place rest.at now 165
        (wrote_gate within)

    pub acknowledged : Wrote (place + 1) body d0 d1 → Synced d1 d2 → Wrote place (165 ∷ []) d2 d3
        → Synced d3 d4
        → IsSettled (g.reads d4) (g.leaves d4) (place + length body) (ps ++ p ∷ [])
    acknowledged wrote s wrote_gate t = record {
      stands = one_more ps p junk (g.reads d4) old.short short (opened wrote s wrote_gate t);
      at = omega (
        arith,
        rest.at,
        ap length (front_push ps p []),
        length-append (front (ps ++ p ∷ [])) [],
        length-append (front ps) (165 ∷ (framed p ++ [])),
        length-append (framed p) [],
        ap length is,
        length-append (framed p) (0 ∷ []),
      );
      lasting = λ c left. t.0 c left ∙ sym t.1;
    }

    abbrev Moment : D → Type 0
    Moment d = AnyMoment calls g.left_since d0 d P

    -- after one, two, three and four calls
    pub first : Writes (place + 1) body d0 d1 → Moment d1
    first w = (written w).so_far

    pub second : Writes (place + 1) body d0 d1 → Syncs d1 d2 → Moment d2
    second w s = (synced (written w) s).so_far

    pub third : Writes (place + 1) body d0 d1 → Wrote (place + 1) body d0 d1 → Syncs d1 d2
        → Synced d1 d2 → Writes place (165 ∷ []) d2 d3 → Moment d3
    third w wrote s lasts x = (gated wrote (synced (written w) s) lasts x).so_far

    pub fourth : Writes (place + 1) body d0 d1 → Wrote (place + 1) body d0 d1 → Syncs d1 d2
        → Synced d1 d2 → Writes place (165 ∷ []) d2 d3 → Syncs d3 d4 → Moment d4
    fourth w wrote s lasts x t =
        (synced_again (gated wrote (synced (written w) s) lasts x) t).so_far
