-- A stripe of a file, as what its chunks are asked from. The law of what a `Pieces` keeps can cite only `specs/`, so
-- what
-- proves it stands here.
use Rattle.std.specs.Prelude.{◌≡◌, ℕ, zero, suc, [], ◌∷◌, ◌+◌, ◌-◌, ◌*◌, ◌<◌, List, length, take, min, Some, All}
use Rattle.std.specs.List.{range_with_len}
use Rattle.std.proofs.Common.{sym, ◌∙◌, subst, get_or, lit<, arith}
use Rattle.std.proofs.lemmas.List.Elements.{All-map, All-from_get_or, All-head, All-tail}
use Rattle.mf_code.specs.Chunks.{chunk, chunk_count}
use Rattle.mf_code.specs.Stripes.{stripe}
use Rattle.mf_code.proofs.Lists.{length-chunk, chunk_at}
use Rattle.mf_shape.specs.Stages.{width_at, parities_at}
use Rattle.mf_places.specs.Generations.{pieces_of}
use Rattle.mf_stripe.proofs.Stripes.{length-stripe}
use Rattle.mf_decode.specs.Stripes.{Stripe, IsChunk, IsDataList}
use Rattle.mf_vault.specs.Facts.{Facts}
use Rattle.mf_vault.specs.Actor.{Actor}
use Rattle.mf_vault.specs.Licence.{IsFile, IsKept}

-- the chunks of stripe j of generation g
abbrev pub chunks_of_stripe : Facts → (g j : ℕ) → List (List ℕ)
chunks_of_stripe f g j = stripe f.book.chunk f.bytes (width_at f.book.shape.stages g) j

abbrev pub stripe_at : Facts → (g j : ℕ) → Stripe
stripe_at f g j = record {
  size = f.book.chunk;
  points = take (parities_at f.book.shape.stages g) f.book.points;
  count = pieces_of f.book g j;
  pieces = Some (chunks_of_stripe f g j);
}

-- its chunks are as many and as long as they are to be
byte_low : (bytes : List ℕ) (k : ℕ) → All (λ b. b < 256) bytes → get_or bytes k 0 < 256
byte_low [] k all = lit< tt
byte_low (x ∷ bytes) zero all = All-head (λ b. b < 256) x bytes all
byte_low (x ∷ bytes) (suc k) all = byte_low bytes k (All-tail (λ b. b < 256) x bytes all)

pub chunk_is : (f : Facts) (i : ℕ) → IsFile f → IsChunk f.book.chunk (chunk f.book.chunk f.bytes i)
chunk_is f i file = record {
  len = length-chunk f.book.chunk f.bytes i;
  bytes = All-from_get_or (λ b. b < 256) (chunk f.book.chunk f.bytes i) 0
      (λ x low. subst (λ n. n < 256) (sym (chunk_at f.book.chunk f.bytes i x (omega (
        arith,
        length-chunk f.book.chunk f.bytes i,
      )))) (byte_low f.bytes (i * f.book.chunk + x) file.bytes));
}

pub count_is : (f : Facts) (g j : ℕ) → IsFile f → length (chunks_of_stripe f g j) ≡ pieces_of f.book g j
count_is f g j file = length-stripe f.book.chunk f.bytes 0 (width_at f.book.shape.stages g) j
    ∙ by_bytes (length f.bytes) file.long
  where
    by_bytes : (n : ℕ) → n ≡ f.book.bytes
        → min ((j + 1) * width_at f.book.shape.stages g)
        (chunk_count f.book.chunk n) - j * width_at f.book.shape.stages g ≡ pieces_of f.book g j
    by_bytes n e =
        let w = width_at f.book.shape.stages g in
        subst (λ (k : ℕ). min ((j + 1) * w) (chunk_count f.book.chunk k) - j * w ≡ pieces_of f.book g j) (sym e)
        (omega arith)

pub stripe_shape : (g j : ℕ) (a : Actor) → IsKept a
    → IsDataList (pieces_of a.facts.book g j) a.facts.book.chunk (chunks_of_stripe a.facts g j)
unfolding stripe
stripe_shape g j a kept = record {
  len = count_is a.facts g j kept.file;
  chunks =
      let f = a.facts in
      let w = width_at f.book.shape.stages g in
      let chunks = range_with_len (j * w) (min ((j + 1) * w) (chunk_count f.book.chunk (length f.bytes)) - j * w) in
      All-map (IsChunk f.book.chunk) (chunk f.book.chunk f.bytes) chunks (λ k d low. chunk_is f
      (get_or chunks k d) kept.file);
}
