-- Words as bytes, read back: a file's words are the words that it was written from.
-- Rests on base Lists, formats File, file_words Pairs.
use mathlib.Core.Path.{◌≡◌, refl, ap₂, ◌∙◌}
use mathlib.Core.List.{List, [], ◌∷◌}
use Prim.Native.Nat.{ℕ, ◌+◌, ◌*◌, ◌/◌, ◌%◌}
use native.Mathlib.Omega.{arith}
use Rattle.base.specs.Lists.{each, from}
use Rattle.formats.specs.File.{words_of, bytes_of}
use Rattle.file_words.proofs.Pairs.{words_more}

pub words-of-bytes : (ws : List ℕ) → words_of (bytes_of ws) ≡ ws
unfolding bytes_of each words_of from
words-of-bytes [] = refl
words-of-bytes (w ∷ ws) =
    let p : w % 256 + 256 * (w / 256) ≡ w = omega arith in
    words_more (w % 256) (w / 256) (bytes_of ws) ∙ ap₂ (λ (x : ℕ) (xs : List ℕ). x ∷ xs) p (words-of-bytes ws)
