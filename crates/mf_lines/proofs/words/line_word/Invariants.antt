use Rattle.std.proofs.Common.{◌≡◌, drop}
use Rattle.std.specs.List.{find}
use Rattle.std.specs.Str.{bytes_eq}
use Rattle.mf_lines.specs.Words.{word_text, line_words}
use Rattle.mf_lines.proofs.words.line_word.Given as goal

abbrev pub invariant-loop-word : goal.invariant-loop-word
invariant-loop-word l =
    find (λ w. bytes_eq l.bytes (word_text w)) line_words ≡ find (λ w. bytes_eq l.bytes (word_text w))
    (drop l.word-index line_words)
