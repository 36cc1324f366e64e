-- Sample texts, by computing: what is read, and what is said of a fault.
-- Rests on formats Limits and Listing, digits Spaced, specs Reading and Said.
use mathlib.Core.Path.{◌≡◌, refl}
use mathlib.Core.List.{List, [], ◌∷◌, ◌++◌, map}
use mathlib.Core.Option.{Option, some, none}
use Prim.Native.Nat.{ℕ, ◌-◌}
use Rattle.base.specs.Checks.{outside}
use Rattle.formats.specs.Limits.{word_limit}
use Rattle.formats.specs.Listing.{digits, decimal}
use Rattle.digits.specs.Spaced.{spaced}
use Rattle.text_form.specs.Reading.{most_words, next, What, other, large, many, nothing, Fault, value, pending, outside_word, in_comment, flush}
use Rattle.text_form.specs.Reading.{blank, full, valued, word_byte, line_byte, text_byte, unless_faulty, step, start, read_on, worded, ended, read_words}
use Rattle.text_form.specs.Said.{above_text, place_text, other_text, what_text, said_text}

abbrev fault : ℕ → ℕ → What → Option Fault
fault l c w = some (record { line = l; column = c; what = w })

-- a text, the words that were read, the fault
unfoldable pub texts : List (List ℕ × List ℕ × Option Fault)
texts =
    -- nothing
    ([], [], fault 1 1 nothing)
    -- `# a`, a newline, `#`: comments only; the text ends at line 2, column 2
    ∷ (35 ∷ 32 ∷ 97 ∷ 10 ∷ 35 ∷ [], [], fault 2 2 nothing)
    -- `3 0`, a newline, `12`
    ∷ (51 ∷ 32 ∷ 48 ∷ 10 ∷ 49 ∷ 50 ∷ [], 3 ∷ 0 ∷ 12 ∷ [], none)
    -- `7#8`: a comment at the end, with no newline
    ∷ (55 ∷ 35 ∷ 56 ∷ [], 7 ∷ [], none)
    -- `#7#a`, a newline, `8`: a comment ends with its line
    ∷ (35 ∷ 55 ∷ 35 ∷ 97 ∷ 10 ∷ 56 ∷ [], 8 ∷ [], none)
    -- `1`, a tab, `2`, a carriage return, a newline, `03`
    ∷ (49 ∷ 9 ∷ 50 ∷ 13 ∷ 10 ∷ 48 ∷ 51 ∷ [], 1 ∷ 2 ∷ 3 ∷ [], none)
    -- `65535`, the largest word
    ∷ (54 ∷ 53 ∷ 53 ∷ 51 ∷ 53 ∷ [], 65535 ∷ [], none)
    -- `65536`
    ∷ (54 ∷ 53 ∷ 53 ∷ 51 ∷ 54 ∷ [], [], fault 1 5 (large 65536))
    -- two newlines, `999999`
    ∷ (10 ∷ 10 ∷ 57 ∷ 57 ∷ 57 ∷ 57 ∷ 57 ∷ 57 ∷ [], [], fault 3 5 (large 99999))
    -- `7x`
    ∷ (55 ∷ 120 ∷ [], [], fault 1 2 (other 120))
    -- `1`, a newline, `22`, a space, `-3`: no sign
    ∷ (49 ∷ 10 ∷ 50 ∷ 50 ∷ 32 ∷ 45 ∷ 51 ∷ [], 1 ∷ 22 ∷ [], fault 2 4 (other 45))
    -- a tab, a byte 200
    ∷ (9 ∷ 200 ∷ [], [], fault 1 2 (other 200))
    -- `12a`, a newline, `a`: the first fault counts
    ∷ (49 ∷ 50 ∷ 97 ∷ 10 ∷ 97 ∷ [], [], fault 1 3 (other 97))
    ∷ []

pub read_as : map {B = List ℕ × Option Fault} (λ s. ((read_words s.0).words, (read_words s.0).fault)) texts
    ≡ map {B = List ℕ × Option Fault} (λ s. (s.1, s.2)) texts
unfolding texts next value pending outside_word in_comment flush blank full valued word_byte line_byte text_byte unless_faulty step start read_on worded ended read_words outside
read_as = refl

-- a fault, and what is said of it
unfoldable pub lines : List (ℕ × ℕ × What × List ℕ)
lines =
    -- `line 1, column 2: 'x' is not a digit`
    (1, 2, other 120, 108 ∷ 105 ∷ 110 ∷ 101 ∷ 32 ∷ 49 ∷ 44 ∷ 32 ∷ 99 ∷ 111 ∷ 108 ∷ 117 ∷ 109 ∷ 110 ∷ 32 ∷ 50 ∷ 58 ∷ 32 ∷ 39 ∷ 120 ∷ 39 ∷ 32 ∷ 105 ∷ 115 ∷ 32 ∷ 110 ∷ 111 ∷ 116 ∷ 32 ∷ 97 ∷ 32 ∷ 100 ∷ 105 ∷ 103 ∷ 105 ∷ 116 ∷ 10 ∷ [])
    -- the first and the last byte that stand in quotes, and those beside them
    ∷ (1, 1, other 33, 108 ∷ 105 ∷ 110 ∷ 101 ∷ 32 ∷ 49 ∷ 44 ∷ 32 ∷ 99 ∷ 111 ∷ 108 ∷ 117 ∷ 109 ∷ 110 ∷ 32 ∷ 49 ∷ 58 ∷ 32 ∷ 39 ∷ 33 ∷ 39 ∷ 32 ∷ 105 ∷ 115 ∷ 32 ∷ 110 ∷ 111 ∷ 116 ∷ 32 ∷ 97 ∷ 32 ∷ 100 ∷ 105 ∷ 103 ∷ 105 ∷ 116 ∷ 10 ∷ [])
    ∷ (1, 1, other 126, 108 ∷ 105 ∷ 110 ∷ 101 ∷ 32 ∷ 49 ∷ 44 ∷ 32 ∷ 99 ∷ 111 ∷ 108 ∷ 117 ∷ 109 ∷ 110 ∷ 32 ∷ 49 ∷ 58 ∷ 32 ∷ 39 ∷ 126 ∷ 39 ∷ 32 ∷ 105 ∷ 115 ∷ 32 ∷ 110 ∷ 111 ∷ 116 ∷ 32 ∷ 97 ∷ 32 ∷ 100 ∷ 105 ∷ 103 ∷ 105 ∷ 116 ∷ 10 ∷ [])
    ∷ (1, 1, other 32, 108 ∷ 105 ∷ 110 ∷ 101 ∷ 32 ∷ 49 ∷ 44 ∷ 32 ∷ 99 ∷ 111 ∷ 108 ∷ 117 ∷ 109 ∷ 110 ∷ 32 ∷ 49 ∷ 58 ∷ 32 ∷ 98 ∷ 121 ∷ 116 ∷ 101 ∷ 32 ∷ 51 ∷ 50 ∷ 32 ∷ 105 ∷ 115 ∷ 32 ∷ 110 ∷ 111 ∷ 116 ∷ 32 ∷ 97 ∷ 32 ∷ 100 ∷ 105 ∷ 103 ∷ 105 ∷ 116 ∷ 10 ∷ [])
    ∷ (1, 1, other 127, 108 ∷ 105 ∷ 110 ∷ 101 ∷ 32 ∷ 49 ∷ 44 ∷ 32 ∷ 99 ∷ 111 ∷ 108 ∷ 117 ∷ 109 ∷ 110 ∷ 32 ∷ 49 ∷ 58 ∷ 32 ∷ 98 ∷ 121 ∷ 116 ∷ 101 ∷ 32 ∷ 49 ∷ 50 ∷ 55 ∷ 32 ∷ 105 ∷ 115 ∷ 32 ∷ 110 ∷ 111 ∷ 116 ∷ 32 ∷ 97 ∷ 32 ∷ 100 ∷ 105 ∷ 103 ∷ 105 ∷ 116 ∷ 10 ∷ [])
    -- `line 3, column 7: 65536 is above 65535`
    ∷ (3, 7, large 65536, 108 ∷ 105 ∷ 110 ∷ 101 ∷ 32 ∷ 51 ∷ 44 ∷ 32 ∷ 99 ∷ 111 ∷ 108 ∷ 117 ∷ 109 ∷ 110 ∷ 32 ∷ 55 ∷ 58 ∷ 32 ∷ 54 ∷ 53 ∷ 53 ∷ 51 ∷ 54 ∷ 32 ∷ 105 ∷ 115 ∷ 32 ∷ 97 ∷ 98 ∷ 111 ∷ 118 ∷ 101 ∷ 32 ∷ 54 ∷ 53 ∷ 53 ∷ 51 ∷ 53 ∷ 10 ∷ [])
    -- `line 12, column 345: more than 262144 words`
    ∷ (12, 345, many, 108 ∷ 105 ∷ 110 ∷ 101 ∷ 32 ∷ 49 ∷ 50 ∷ 44 ∷ 32 ∷ 99 ∷ 111 ∷ 108 ∷ 117 ∷ 109 ∷ 110 ∷ 32 ∷ 51 ∷ 52 ∷ 53 ∷ 58 ∷ 32 ∷ 109 ∷ 111 ∷ 114 ∷ 101 ∷ 32 ∷ 116 ∷ 104 ∷ 97 ∷ 110 ∷ 32 ∷ 50 ∷ 54 ∷ 50 ∷ 49 ∷ 52 ∷ 52 ∷ 32 ∷ 119 ∷ 111 ∷ 114 ∷ 100 ∷ 115 ∷ 10 ∷ [])
    -- `line 1, column 1: no word`
    ∷ (1, 1, nothing, 108 ∷ 105 ∷ 110 ∷ 101 ∷ 32 ∷ 49 ∷ 44 ∷ 32 ∷ 99 ∷ 111 ∷ 108 ∷ 117 ∷ 109 ∷ 110 ∷ 32 ∷ 49 ∷ 58 ∷ 32 ∷ 110 ∷ 111 ∷ 32 ∷ 119 ∷ 111 ∷ 114 ∷ 100 ∷ 10 ∷ [])
    ∷ []

pub said-as : map (λ s. said_text (record { line = s.0; column = s.1; what = s.2 })) lines ≡ map (λ s. s.3) lines
unfolding lines place_text other_text what_text said_text spaced digits decimal outside
said-as = refl

-- what is said of a limit is the limit: `more than`, ` words`, ` is above`
abbrev more_text : List ℕ
more_text = 109 ∷ 111 ∷ 114 ∷ 101 ∷ 32 ∷ 116 ∷ 104 ∷ 97 ∷ 110 ∷ []

abbrev words_text : List ℕ
words_text = 32 ∷ 119 ∷ 111 ∷ 114 ∷ 100 ∷ 115 ∷ []

abbrev is_above_text : List ℕ
is_above_text = 32 ∷ 105 ∷ 115 ∷ 32 ∷ 97 ∷ 98 ∷ 111 ∷ 118 ∷ 101 ∷ []

pub limits-as : (what_text many ≡ more_text ++ (spaced most_words ++ words_text)) × (above_text ≡ is_above_text ++ spaced (word_limit - 1))
unfolding what_text spaced digits decimal
limits-as = (refl, refl)

-- lines and columns are counted to 999999999
pub counted-as : (next 1 ≡ 2) × (next 999999998 ≡ 999999999) × (next 999999999 ≡ 999999999)
unfolding next
counted-as = (refl, refl, refl)
