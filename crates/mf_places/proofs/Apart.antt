-- The names of one stripe lie on different servers.
use Rattle.std.proofs.Common.{◌≡◌, ℕ, suc, zero, ◌+◌, ◌*◌, ◌/◌, ◌%◌, ◌<◌, ◌≤◌, length, ap, ◌∙◌, sym, ⊎_elim, arith}
use Rattle.std.proofs.Math.Nat.{mul-le-mul_right, mod-lt, div-add-mod'}
use Rattle.std.proofs.lemmas.Bool.{cases_lt}
use Rattle.mf_shape.specs.Stages.{width_at, parities_at, copies_at, max_width, max_copied_width}
use Rattle.mf_shape.proofs.Widths.{width_at-le-max_width, one-le-max_width}
use Rattle.mf_places.specs.declared.Name.{Name}
use Rattle.mf_places.specs.declared.Name.TheVariants as name
use Rattle.mf_places.specs.Facts.{BookFacts, IsBook}
use Rattle.mf_places.specs.Generations.{stripe_of}
use Rattle.mf_places.specs.Placement.{IsApart, column_of}
use Rattle.mf_places.proofs.Held.{Holds, Holds-from, copies_at-le-first, parities_at-le-first, width_at-le-max_copied}

-- numbers of one quotient are nearer than the divisor
near : (i j k : ℕ) → 0 < k → i / k ≡ j / k → i < j + k
near i j k pos e =
    let at_i = div-add-mod' i k in
    let at_j = div-add-mod' j k in
    let low = mod-lt i pos in
    let same : i / k * k ≡ j / k * k = ap (λ q. q * k) e in
    omega arith

-- numbers of one remainder that are nearer than the divisor are one
quotient-le : (a b d : ℕ) → 0 < d → a % d ≡ b % d → b < a + d → b / d ≤ a / d
quotient-le a b d pos e h = ⊎_elim
    (λ less.
    let more : suc (a / d) * d ≤ b / d * d = mul-le-mul_right d less in
    let at_a = div-add-mod' a d in
    let at_b = div-add-mod' b d in
    absurd (omega arith))
    (λ fine. fine)
    (cases_lt (a / d) (b / d))

pub same-mod : (a b d : ℕ) → 0 < d → a % d ≡ b % d → a < b + d → b < a + d → a ≡ b
same-mod a b d pos e h k =
    let low = quotient-le a b d pos e k in
    let high = quotient-le b a d pos (sym e) h in
    let same : a / d * d ≡ b / d * d = ap (λ q. q * d) (omega arith) in
    let at_a = div-add-mod' a d in
    let at_b = div-add-mod' b d in
    omega arith

-- copy e of chunk i (0 is the data itself) is moved on to this number, before it is taken over the widest stripe
abbrev moved : ℕ → ℕ → ℕ → ℕ
moved copied i e = i + e * copied

moved-near : (copied k most i j e f : ℕ) → k ≤ copied → i < j + k → e ≤ most
    → moved copied i e < moved copied j f + (most + 1) * copied
moved-near copied k most i j e f narrow h few =
    let more = mul-le-mul_right copied few in
    omega arith

copy-le : (copied k i j e f : ℕ) → k ≤ copied → j < i + k → moved copied i e ≡ moved copied j f → e ≤ f
copy-le copied k i j e f narrow h same = ⊎_elim
    (λ less.
    let more : suc f * copied ≤ e * copied = mul-le-mul_right copied less in
    absurd (omega arith))
    (λ fine. fine)
    (cases_lt f e)

pub record IsOne (i j e f : ℕ) : Type 0 where
  pub chunk : i ≡ j
  pub copy : e ≡ f

-- of chunks and copies in one stripe, no two have one column
same-moved : (copied k widest most i j e f : ℕ) → 0 < widest → k ≤ widest → (0 < most → k ≤ copied)
    → (0 < most → (most + 1) * copied ≤ widest)
    → i < j + k → j < i + k → e ≤ most → f ≤ most
    → moved copied i e % widest ≡ moved copied j f % widest → IsOne i j e f
same-moved copied k widest zero i j e f pos wide narrow room ij ji he hf same =
    let e0 : e ≡ 0 = omega arith in
    let f0 : f ≡ 0 = omega arith in
    let at_i : moved copied i e ≡ i = ap (moved copied i) e0 ∙ omega arith in
    let at_j : moved copied j f ≡ j = ap (moved copied j) f0 ∙ omega arith in
    let rest : i % widest ≡ j % widest = ap (λ x. x % widest) (sym at_i) ∙ same ∙ ap (λ x. x % widest) at_j in
    record { chunk = same-mod i j widest pos rest (omega arith) (omega arith); copy = e0 ∙ sym f0 }
same-moved copied k widest (suc most) i j e f pos wide narrow room ij ji he hf same =
    let thin = narrow (omega arith) in
    let fits = room (omega arith) in
    let one = same-mod (moved copied i e) (moved copied j f) widest pos same
    (omega (arith, moved-near copied k (suc most) i j e f thin ij he))
    (omega (arith, moved-near copied k (suc most) j i f e thin ji hf)) in
    let copy : e ≡ f = omega (arith, copy-le copied k i j e f thin ji one, copy-le copied k j i f e thin ij (sym one))
    in
    let moved : e * copied ≡ f * copied = ap (λ n. n * copied) copy in
    record { chunk = omega arith; copy = copy }

-- ---- what a shape says of generation g

record Room (b : BookFacts) (g : ℕ) : Type 0 where
  pub widest : 0 < max_width b.shape.stages
  pub width : 0 < width_at b.shape.stages g
  pub wide : width_at b.shape.stages g ≤ max_width b.shape.stages
  pub narrow : 0 < copies_at b.shape.stages g → width_at b.shape.stages g ≤ max_copied_width b.shape.stages
  pub copies : 0 < copies_at b.shape.stages g
      → (copies_at b.shape.stages g + 1) * max_copied_width b.shape.stages ≤ max_width b.shape.stages
  pub parities : parities_at b.shape.stages g ≤ parities_at b.shape.stages 0
  pub servers : max_width b.shape.stages + parities_at b.shape.stages 0 ≤ b.shape.servers

room_for : (b : BookFacts) → IsBook b → (g : ℕ) → g < length b.shape.stages → Room b g
room_for b book g below =
    let chain = book.shape.chain in
    let fewer = copies_at-le-first chain g below in
    record {
      widest = one-le-max_width chain;
      width = (chain.widths g below).0;
      wide = width_at-le-max_width b.shape.stages g below;
      narrow = width_at-le-max_copied b.shape.stages g below;
      copies = λ some.
          let all = book.shape.copies (omega arith) in
          let more : (copies_at b.shape.stages g + 1) * max_copied_width b.shape.stages ≤
          (copies_at b.shape.stages 0 + 1) * max_copied_width b.shape.stages =
          mul-le-mul_right (max_copied_width b.shape.stages) (omega arith) in
          omega arith;
      parities = parities_at-le-first chain g below;
      servers = book.shape.servers.0;
    }

-- copy e of chunk i stands in this column
column-data : (b : BookFacts) (i : ℕ) → column_of b (name.Data i)
    ≡ moved (max_copied_width b.shape.stages) i 0 % max_width b.shape.stages
column-data b i = ap (λ n. n % max_width b.shape.stages) (omega arith)

chunk-moved : (b : BookFacts) (g : ℕ) → Room b g → (i j e f : ℕ)
    → i / width_at b.shape.stages g ≡ j / width_at b.shape.stages g → e ≤ copies_at b.shape.stages g
    → f ≤ copies_at b.shape.stages g
    → moved (max_copied_width b.shape.stages) i e % max_width b.shape.stages
    ≡ moved (max_copied_width b.shape.stages) j f % max_width b.shape.stages → IsOne i j e f
chunk-moved b g room i j e f stripe he hf same =
    same-moved (max_copied_width b.shape.stages) (width_at b.shape.stages g) (max_width b.shape.stages)
    (copies_at b.shape.stages g) i j e f
    room.widest room.wide room.narrow room.copies
    (near i j (width_at b.shape.stages g) room.width stripe)
    (near j i (width_at b.shape.stages g) room.width (sym stripe)) he hf same

-- the columns of one stripe are apart
one-column : (b : BookFacts) (g : ℕ) → Room b g → (x y : Name) → Holds b g x → Holds b g y
    → stripe_of b g x ≡ stripe_of b g y → column_of b x ≡ column_of b y → x ≡ y
one-column b g room (name.Data i) (name.Data j) hx hy stripe column =
    let few : 0 ≤ copies_at b.shape.stages g = omega arith in
    let one = chunk-moved b g room i j 0 0 stripe few few (sym (column-data b i) ∙ column ∙ column-data b j) in
    ap (λ n. name.Data n) one.chunk
one-column b g room (name.Data i) (name.Copy d j) hx hy stripe column =
    let none : 0 ≤ copies_at b.shape.stages g = omega arith in
    let few : d + 1 ≤ copies_at b.shape.stages g = omega (arith, hy.0) in
    let one = chunk-moved b g room i j 0 (d + 1) stripe none few (sym (column-data b i) ∙ column) in
    absurd (omega (arith, one.copy))
one-column b g room (name.Copy c i) (name.Data j) hx hy stripe column =
    let none : 0 ≤ copies_at b.shape.stages g = omega arith in
    let few : c + 1 ≤ copies_at b.shape.stages g = omega (arith, hx.0) in
    let one = chunk-moved b g room i j (c + 1) 0 stripe few none (column ∙ column-data b j) in
    absurd (omega (arith, one.copy))
one-column b g room (name.Copy c i) (name.Copy d j) hx hy stripe column =
    let few_c : c + 1 ≤ copies_at b.shape.stages g = omega (arith, hx.0) in
    let few_d : d + 1 ≤ copies_at b.shape.stages g = omega (arith, hy.0) in
    let one = chunk-moved b g room i j (c + 1) (d + 1) stripe few_c few_d column in
    let copy : c ≡ d = omega (arith, one.copy) in
    let chunk : i ≡ j = one.chunk in
    cc
one-column b g room (name.Data i) (name.Parity w j p) hx hy stripe column =
    let low = mod-lt i room.widest in absurd (omega arith)
one-column b g room (name.Copy c i) (name.Parity w j p) hx hy stripe column =
    let low = mod-lt (i + (c + 1) * max_copied_width b.shape.stages) room.widest in absurd (omega arith)
one-column b g room (name.Parity w j p) (name.Data i) hx hy stripe column =
    let low = mod-lt i room.widest in absurd (omega arith)
one-column b g room (name.Parity w j p) (name.Copy c i) hx hy stripe column =
    let low = mod-lt (i + (c + 1) * max_copied_width b.shape.stages) room.widest in absurd (omega arith)
one-column b g room (name.Parity w j p) (name.Parity v k r) hx hy stripe column =
    let width : w ≡ v = hx.0 ∙ sym hy.0 in
    let point : p ≡ r = omega arith in
    cc

-- a held name's column is one of the servers
column-below : (b : BookFacts) (g : ℕ) → Room b g → (x : Name) → Holds b g x → column_of b x < b.shape.servers
column-below b g room (name.Data i) h = let low = mod-lt i room.widest in let fits = room.servers in omega arith
column-below b g room (name.Copy c i) h = let low =
    mod-lt (i + (c + 1) * max_copied_width b.shape.stages) room.widest in let fits = room.servers in omega arith
column-below b g room (name.Parity w j p) h = let fits = room.servers in let few = room.parities in let mine =
    h.2 in omega arith

pub IsApart-from : (b : BookFacts) → IsBook b → (x : Name) → IsApart b x
IsApart-from b book x = record {
  apart = λ g y below hx hy stripe server.
      let room = room_for b book g below in
      let held_x = Holds-from b g x hx in
      let held_y = Holds-from b g y hy in
      let low_x = column-below b g room x held_x in
      let low_y = column-below b g room y held_y in
      let sum : b.file + column_of b x ≡ b.file + column_of b y =
      same-mod _ _ b.shape.servers (omega arith) server (omega arith) (omega arith) in
      one-column b g room x y held_x held_y stripe (omega arith);
}
