-- The lists of the definitions, byte by byte.
use Rattle.std.proofs.Common.{◌≡◌, ℕ, ◌+◌, ◌-◌, ◌*◌, ◌<◌, min, List, length, get_or, ap, ◌∙◌, arith, zero-add}
use Rattle.std.proofs.lemmas.List.FromFn.{length-map-range_with_len, get_or-map-range_with_len, fill_by_all}
use Rattle.mf_code.specs.Field.{times, power}
use Rattle.mf_code.specs.Rows.{list_of}
use Rattle.mf_code.specs.Chunks.{chunk, parity, parity_byte, chunk_count}
use Rattle.mf_code.specs.Sums.{sum_below}
use Rattle.mf_code.proofs.Sums.{sum_below-same}

pub length-list_of : (n : ℕ) (f : ℕ → ℕ) → length (list_of n f) ≡ n
length-list_of n f = length-map-range_with_len f 0 n

pub list_of_at : (n : ℕ) (f : ℕ → ℕ) (x : ℕ) → x < n → get_or (list_of n f) x 0 ≡ f x
list_of_at n f x lt = get_or-map-range_with_len f 0 n x x 0 lt (zero-add x)

-- a list of n bytes whose byte x is f x is the list of f
pub list_of_from : (n : ℕ) (f : ℕ → ℕ) (xs : List ℕ) → length xs ≡ n → ((x : ℕ) → x < n → get_or xs x 0 ≡ f x)
    → xs ≡ list_of n f
list_of_from n f xs len at = fill_by_all f xs n 0 len at

-- two lists made from functions that agree are one
pub list_of-same : (n : ℕ) (f g : ℕ → ℕ) → ((x : ℕ) → x < n → f x ≡ g x) → list_of n f ≡ list_of n g
list_of-same n f g h = list_of_from n g (list_of n f) (length-list_of n f) (λ x lt. list_of_at n f x lt ∙ h x lt)

pub length-chunk : (size : ℕ) (file : List ℕ) (i : ℕ) → length (chunk size file i) ≡ size
unfolding chunk
length-chunk size file i = length-list_of size (λ x. get_or file (i * size + x) 0)

pub chunk_at : (size : ℕ) (file : List ℕ) (i x : ℕ) → x < size → get_or (chunk size file i) x 0
    ≡ get_or file (i * size + x) 0
unfolding chunk
chunk_at size file i x lt = list_of_at size (λ x. get_or file (i * size + x) 0) x lt

pub length-parity : (size : ℕ) (file : List ℕ) (point width j : ℕ) → length (parity size file point width j) ≡ size
unfolding parity
length-parity size file point width j = length-list_of size (parity_byte size file point width j)

pub parity_at : (size : ℕ) (file : List ℕ) (point width j x : ℕ) → x < size
    → get_or (parity size file point width j) x 0 ≡ parity_byte size file point width j x
unfolding parity
parity_at size file point width j x lt = list_of_at size (parity_byte size file point width j) x lt

-- byte x of a parity, its places counted from the stripe's first chunk
pub parity_byte_by_place : (size : ℕ) (file : List ℕ) (point width j x : ℕ)
    → parity_byte size file point width j x
    ≡ sum_below (min ((j + 1) * width) (chunk_count size (length file)) - j * width)
    (λ i. times (power point i) (get_or (chunk size file (j * width + i)) x 0))
unfolding parity_byte
parity_byte_by_place size file point width j x =
    sum_below-same (min ((j + 1) * width) (chunk_count size (length file)) - j * width) _
    (λ i. times (power point i) (get_or (chunk size file (j * width + i)) x 0))
    (λ i lt. ap (λ (e : ℕ). times (power point e) (get_or (chunk size file (j * width + i)) x 0))
    (let e : j * width + i - j * width ≡ i = omega arith in e))
