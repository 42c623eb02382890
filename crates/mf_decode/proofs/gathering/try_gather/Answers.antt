use Rattle.std.proofs.Common.{◌≡◌, ℕ, ◌≤◌, List, Option, length, map, is_some, sym, ap, ◌∙◌, subst, arith, rules}
use Rattle.std.proofs.lemmas.Result.{err_from_is_err_and}
use Rattle.mf_erasure.specs.Erasure.{IsErasure}
use Rattle.mf_decode.specs.Stripes.{Stripe}
use Rattle.mf_decode.specs.Answers.{had, missing}
use Rattle.mf_decode.specs.Fronts.{ParitiesAsked, ParitiesCut, ParitiesInOrder, AreParities, had_from}
use Rattle.mf_decode.specs.Decoding.{gaps_from}
use Rattle.mf_decode.proofs.Filling.{length-gaps}
use Rattle.mf_decode.proofs.Askings.{cut_at_pieces, cut_after_pieces, cut_at_parities, cut_after_parities}
use Rattle.mf_decode.proofs.Whole.{is_erasure, length-had_from, piece_sizes, parity_sizes, is_whole, asks_whole}
use Rattle.mf_decode.proofs.Whole.{pieces_count, had_enough}
use Rattle.mf_decode.proofs.gathering.try_gather.Goals as goal

pub returns-in_err-found-clause-asked : goal.returns-in_err-found-clause-asked
returns-in_err-found-clause-asked g c =
    let A = g.P.Pieces.answers in
    let p = err_from_is_err_and c.from_residual.result c.from_residual.ensures.1 in
    rw p.1 (cut_at_pieces c.args.count (length c.args.points.now) (A c.args.pieces.now) (A c.ask_pieces.new.pieces)
    (g.P.Pieces.failure c.ask_pieces.new.pieces) c.in_err-found.ensures.asked)

pub returns-in_err-erased-clause-asked : goal.returns-in_err-erased-clause-asked
returns-in_err-erased-clause-asked g c =
    let A = g.P.Pieces.answers in
    let stripe = g.P.Pieces.stripe c.args.pieces.now in
    let failure = g.P.Pieces.failure c.ask_pieces.new.pieces in
    let found = c.in_ok-found.found.items in
    let pieces = c.in_ok-found.ensures.asked in
    let p = err_from_is_err_and c.from_residual-in_err-erased.result c.from_residual-in_err-erased.ensures.1 in
    rw p.1 (cut_after_pieces c.args.count (length c.args.points.now) (A c.args.pieces.now) (A c.ask_pieces.new.pieces)
    failure (map is_some found)
    (pieces_count stripe c.args.chunk c.args.count c.args.points.now (A c.args.pieces.now) (A c.ask_pieces.new.pieces)
    failure found c.requires.stripe pieces) pieces.answers pieces.unbroken)

pub returns-in_err-had-clause-asked : goal.returns-in_err-had-clause-asked
returns-in_err-had-clause-asked g c =
    let A = g.P.Pieces.answers in
    let stripe = g.P.Pieces.stripe c.args.pieces.now in
    let found = c.in_ok-found.found.items in
    let pieces = c.in_ok-found.ensures.asked in
    let held : c.len.result ≡ length c.in_ok-erased.erased.items = search rules in
    let wanted : c.len.result ≡ missing (map is_some found) = held
    ∙ ap length
    (c.in_ok-erased.ensures ∙ ap (λ (l : List (Option (List ℕ))). gaps_from 0 l) c.as_slice.ensures.value)
    ∙ length-gaps 0 found in
    let p = err_from_is_err_and c.from_residual-in_err-had.result c.from_residual-in_err-had.ensures.1 in
    rw p.1 (cut_at_parities c.args.count (length c.args.points.now) (A c.args.pieces.now) (A c.ask_pieces.new.pieces)
    (A c.ask_parities.new.pieces) (g.P.Pieces.failure c.ask_parities.new.pieces) (map is_some found)
    (pieces_count stripe c.args.chunk c.args.count c.args.points.now (A c.args.pieces.now) (A c.ask_pieces.new.pieces)
    (g.P.Pieces.failure c.ask_pieces.new.pieces) found c.requires.stripe pieces) pieces.answers
    (subst (λ (n : ℕ). ParitiesCut (length c.args.points.now) n (A c.ask_pieces.new.pieces)
    (A c.ask_parities.new.pieces) (g.P.Pieces.failure c.ask_parities.new.pieces)) wanted
    c.in_err-had.ensures.asked))

pub returns-then-len-clause-asked : goal.returns-then-len-clause-asked
returns-then-len-clause-asked g c =
    let A = g.P.Pieces.answers in
    let stripe = g.P.Pieces.stripe c.args.pieces.now in
    let found = c.in_ok-found.found.items in
    let pieces = c.in_ok-found.ensures.asked in
    let (hs, asked) = c.in_ok-had.ensures.asked in
    let held : c.len.result ≡ length c.in_ok-erased.erased.items = search rules in
    let wanted : c.len.result ≡ missing (map is_some found) = held
    ∙ ap length
    (c.in_ok-erased.ensures ∙ ap (λ (l : List (Option (List ℕ))). gaps_from 0 l) c.as_slice.ensures.value)
    ∙ length-gaps 0 found in
    let numbers = c.in_ok-had.had.numbers.items in
    let chunks = c.in_ok-had.had.chunks.items in
    let middle = A c.ask_pieces.new.pieces in
    let after = A c.ask_parities.new.pieces in
    let failure = g.P.Pieces.failure c.ask_parities.new.pieces in
    let parities : ParitiesAsked stripe (missing (map is_some found)) middle after failure numbers chunks hs =
    subst (λ (n : ℕ). ParitiesAsked stripe n middle after failure numbers chunks hs) wanted
    (subst (λ (s : Stripe). ParitiesAsked s c.len.result middle after failure numbers chunks hs)
    c.in_ok-found.ensures.stays.0 asked) in
    let (list, is, whole) = asks_whole stripe c.args.chunk c.args.count c.args.points.now (A c.args.pieces.now) middle
    after (g.P.Pieces.failure c.ask_pieces.new.pieces) failure found numbers chunks hs c.requires.stripe pieces
    parities in
    let few : c.len-2.result ≡ length numbers = search rules in
    let many : c.len-3.result ≡ length c.in_ok-erased.erased.items = search rules in
    let count : length numbers ≡ had hs = ap length parities.numbers_are ∙ length-had_from 0 hs in
    let less = c.if-len.true in
    (list, is, ((map is_some found, hs, whole, (omega arith)), parities.unbroken))

pub restored-requires-clause-erasure : goal.restored-requires-clause-erasure
restored-requires-clause-erasure g c =
    let A = g.P.Pieces.answers in
    let stripe = g.P.Pieces.stripe c.args.pieces.now in
    let found = c.in_ok-found.found.items in
    let pieces = c.in_ok-found.ensures.asked in
    let (hs, asked) = c.in_ok-had.ensures.asked in
    let gaps : c.in_ok-erased.erased.items ≡ gaps_from 0 found = c.in_ok-erased.ensures
    ∙ ap (λ (l : List (Option (List ℕ))). gaps_from 0 l) c.as_slice.ensures.value in
    let numbers = c.in_ok-had.had.numbers.items in
    let held : c.len.result ≡ length c.in_ok-erased.erased.items = search rules in
    let few : c.len-2.result ≡ length numbers = search rules in
    let many : c.len-3.result ≡ length c.in_ok-erased.erased.items = search rules in
    let enough = c.if-len.false in
    let stripe_now = g.P.Pieces.stripe c.ask_pieces.new.pieces in
    let all : had hs
    ≡ c.len.result = had_enough stripe_now c.len.result (A c.ask_pieces.new.pieces) (A c.ask_parities.new.pieces)
    (g.P.Pieces.failure c.ask_parities.new.pieces) numbers c.in_ok-had.had.chunks.items hs asked (omega arith) in
    let count : length found ≡ c.args.count = pieces.count ∙ c.requires.stripe.count_is in
    let within = c.requires.count in
    let exist : length hs
    ≤ length c.args.points.now = subst (λ (n : ℕ). length hs ≤ n)
    (ap (λ (s : Stripe). length s.points) c.in_ok-found.ensures.stays.0 ∙ ap length c.requires.stripe.points_are)
    asked.order.exist in
    let even : length (gaps_from 0 found) ≡ length (had_from 0 hs) = ap length (sym gaps) ∙ sym held ∙ sym all
    ∙ sym (length-had_from 0 hs) in
    subst (λ (l : List ℕ). IsErasure c.args.width (length c.args.points.now) l numbers)
    (sym (c.as_slice-2.ensures.value ∙ gaps))
    (subst (λ (l : List ℕ). IsErasure c.args.width (length c.args.points.now) (gaps_from 0 found) l)
    (sym asked.numbers_are)
    (is_erasure c.args.width (length c.args.points.now) found hs (omega arith) exist even))

pub restored-requires-clause-piece_sizes : goal.restored-requires-clause-piece_sizes
restored-requires-clause-piece_sizes g c = piece_sizes (g.P.Pieces.stripe c.args.pieces.now) c.args.chunk
    c.in_ok-found.found.items c.requires.stripe.size_is c.in_ok-found.ensures.asked.each

pub restored-requires-clause-parity_sizes : goal.restored-requires-clause-parity_sizes
restored-requires-clause-parity_sizes g c =
    let (hs, asked) = c.in_ok-had.ensures.asked in
    parity_sizes (g.P.Pieces.stripe c.ask_pieces.new.pieces) c.args.chunk c.in_ok-had.had.numbers.items
    c.in_ok-had.had.chunks.items
    (ap (λ (s : Stripe). s.size) c.in_ok-found.ensures.stays.0 ∙ c.requires.stripe.size_is) asked.each

pub returns-in_err-restored-clause-asked : goal.returns-in_err-restored-clause-asked
returns-in_err-restored-clause-asked g c =
    let A = g.P.Pieces.answers in
    let stripe = g.P.Pieces.stripe c.args.pieces.now in
    let found = c.in_ok-found.found.items in
    let pieces = c.in_ok-found.ensures.asked in
    let (hs, asked) = c.in_ok-had.ensures.asked in
    let held : c.len.result ≡ length c.in_ok-erased.erased.items = search rules in
    let wanted : c.len.result ≡ missing (map is_some found) = held
    ∙ ap length
    (c.in_ok-erased.ensures ∙ ap (λ (l : List (Option (List ℕ))). gaps_from 0 l) c.as_slice.ensures.value)
    ∙ length-gaps 0 found in
    let middle = A c.ask_pieces.new.pieces in
    let after = A c.ask_parities.new.pieces in
    let points : length (g.P.Pieces.stripe c.ask_pieces.new.pieces).points
    ≡ length c.args.points.now = ap (λ (s : Stripe). length s.points) c.in_ok-found.ensures.stays.0
    ∙ ap length c.requires.stripe.points_are in
    let p = err_from_is_err_and c.from_residual-in_err-restored.result c.from_residual-in_err-restored.ensures.1 in
    rw p.1 (cut_after_parities c.args.count (length c.args.points.now) (A c.args.pieces.now) middle after
    (g.P.Pieces.failure c.ask_parities.new.pieces) (map is_some found) hs
    (pieces_count stripe c.args.chunk c.args.count c.args.points.now (A c.args.pieces.now) middle
    (g.P.Pieces.failure c.ask_pieces.new.pieces) found c.requires.stripe pieces) pieces.answers
    (subst (λ (n : ℕ). ParitiesInOrder n (missing (map is_some found)) middle after hs) points
    (subst (λ (n : ℕ). ParitiesInOrder (length (g.P.Pieces.stripe c.ask_pieces.new.pieces).points) n middle after
    hs) wanted asked.order)) asked.unbroken)

pub returns-clause-answer : goal.returns-clause-answer
returns-clause-answer g c =
    let stripe = g.P.Pieces.stripe c.args.pieces.now in
    let pieces = c.in_ok-found.ensures.asked in
    let (hs, asked) = c.in_ok-had.ensures.asked in
    let numbers = c.in_ok-had.had.numbers.items in
    let chunks = c.in_ok-had.had.chunks.items in
    is_whole stripe c.args.chunk c.args.count c.args.width c.args.points.now c.as_slice-2.result.now
    c.in_ok-found.found.items numbers chunks c.in_ok-restored.field-0.items c.requires.stripe pieces.count
    pieces.each
    (subst (λ (s : Stripe). AreParities s numbers chunks) c.in_ok-found.ensures.stays.0 asked.each)
    (g.met.P.Pieces.shape c.args.pieces.now) c.in_ok-restored.ensures.data c.in_ok-restored.ensures.only

pub returns-clause-asked : goal.returns-clause-asked
returns-clause-asked g c =
    let A = g.P.Pieces.answers in
    let stripe = g.P.Pieces.stripe c.args.pieces.now in
    let found = c.in_ok-found.found.items in
    let pieces = c.in_ok-found.ensures.asked in
    let (hs, asked) = c.in_ok-had.ensures.asked in
    let held : c.len.result ≡ length c.in_ok-erased.erased.items = search rules in
    let wanted : c.len.result ≡ missing (map is_some found) = held
    ∙ ap length
    (c.in_ok-erased.ensures ∙ ap (λ (l : List (Option (List ℕ))). gaps_from 0 l) c.as_slice.ensures.value)
    ∙ length-gaps 0 found in
    let numbers = c.in_ok-had.had.numbers.items in
    let chunks = c.in_ok-had.had.chunks.items in
    let middle = A c.ask_pieces.new.pieces in
    let after = A c.ask_parities.new.pieces in
    let failure = g.P.Pieces.failure c.ask_parities.new.pieces in
    let parities : ParitiesAsked stripe (missing (map is_some found)) middle after failure numbers chunks hs =
    subst (λ (n : ℕ). ParitiesAsked stripe n middle after failure numbers chunks hs) wanted
    (subst (λ (s : Stripe). ParitiesAsked s c.len.result middle after failure numbers chunks hs)
    c.in_ok-found.ensures.stays.0 asked) in
    let (list, is, whole) = asks_whole stripe c.args.chunk c.args.count c.args.points.now (A c.args.pieces.now) middle
    after (g.P.Pieces.failure c.ask_pieces.new.pieces) failure found numbers chunks hs c.requires.stripe pieces
    parities in
    let few : c.len-2.result ≡ length numbers = search rules in
    let many : c.len-3.result ≡ length c.in_ok-erased.erased.items = search rules in
    let enough = c.if-len.false in
    let all : had hs
    ≡ missing (map is_some found) = had_enough stripe (missing (map is_some found)) middle after failure numbers
    chunks hs parities (omega arith) in
    (list, is, ((map is_some found, hs, whole, all), parities.unbroken))
