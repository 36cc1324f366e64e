-- Decimal words in a text: runs of digits of value below 65536, parted by blanks; `#` begins a comment that lasts to the end of its line.
-- A fault is told by its line, its column and what stood there. Rests on base Checks, formats Limits.
use Rattle.std.specs.Prelude.{Bool, true, false, ◌||◌, ◌&&◌, List, [], ◌∷◌, ◌++◌, ℕ, suc, ◌+◌, ◌-◌, ◌*◌, eqb, ltb, length}
use Rattle.std.proofs.Math.Option.{Option, some, none}
use Rattle.base.specs.Checks.{outside}
use Rattle.formats.specs.Limits.{word_limit}

-- the most words of a text
abbrev pub most_words : ℕ
most_words = 262144

-- lines and columns are counted to this number and no further, so that a text of any length is read with bounded numbers
abbrev pub most_count : ℕ
most_count = 999999999

unfoldable pub next : ℕ → ℕ
next n = elim (ltb n most_count) [ true ↦ suc n | false ↦ n ]

-- between words, within a word with its value so far, or in a comment
pub data Mode : Type 0 where
  between : Mode
  within : ℕ → Mode
  comment : Mode

-- what stood where a fault is: a byte that is no digit; a digit with which a word has this value, above 65535; a word beyond the most; or there
-- is no word in all the text
pub data What : Type 0 where
  other : ℕ → What
  large : ℕ → What
  many : What
  nothing : What

-- the line and the column, both from 1, of the byte that made it
pub record Fault : Type 0 where
  pub line : ℕ
  pub column : ℕ
  pub what : What

-- what has been read: the words, the line and the column of the byte that comes next, the mode, and the first fault
pub record Read : Type 0 where
  pub words : List ℕ
  pub line : ℕ
  pub column : ℕ
  pub mode : Mode
  pub fault : Option Fault

unfoldable pub start : Read
start = record { words = []; line = 1; column = 1; mode = between; fault = none }

unfoldable pub value : Mode → ℕ
value between = 0
value (within n) = n
value comment = 0

-- the word that is being read
unfoldable pub pending : Mode → List ℕ
pending between = []
pending (within n) = n ∷ []
pending comment = []

-- no word is being read
unfoldable pub outside_word : Mode → Bool
outside_word between = true
outside_word (within n) = false
outside_word comment = true

unfoldable pub in_comment : Mode → Bool
in_comment between = false
in_comment (within n) = false
in_comment comment = true

-- a word that was being read is done
unfoldable pub flush : Read → Read
flush r = record { words = r.words ++ pending r.mode; line = r.line; column = r.column; mode = between; fault = r.fault }

-- one byte on, in this mode; on the next line; with a fault at this line and column
abbrev pub onward : Mode → Read → Read
onward m r = record { words = r.words; line = r.line; column = next r.column; mode = m; fault = r.fault }

abbrev pub next_line : Read → Read
next_line r = record { words = r.words; line = next r.line; column = 1; mode = between; fault = r.fault }

abbrev pub faulty : What → Read → Read
faulty w r =
    record {
      words = r.words;
      line = r.line;
      column = r.column;
      mode = r.mode;
      fault = some (record { line = r.line; column = r.column; what = w });
    }

-- space, tab, carriage return
unfoldable pub blank : ℕ → Bool
blank b = eqb b 32 || (eqb b 9 || eqb b 13)

-- a word that begins here is one too many
unfoldable pub full : Read → Bool
full r = outside_word r.mode && ltb most_words (suc (length r.words))

-- the word that is being read has the value n: a fault where that is no word
unfoldable pub valued : Read → ℕ → Read
valued r n = elim (ltb n word_limit) [ true ↦ onward (within n) r | false ↦ faulty (large n) r ]

-- a byte of a word: a digit, `0` (48) to `9` (57); any other is a fault, and so is a word too many
unfoldable pub word_byte : Read → ℕ → Read
word_byte r b =
    elim (outside 48 57 b) [
      | true ↦ faulty (other b) r
      | false ↦ elim (full r) [ true ↦ faulty many r | false ↦ valued r (10 * value r.mode + (b - 48)) ]
    ]

-- a byte of a line, outside comments: `#` (35) begins one
unfoldable pub line_byte : Read → ℕ → Read
line_byte r b =
    elim (eqb b 35) [ true ↦ onward comment (flush r) | false ↦ elim (blank b) [ true ↦ onward between (flush r) | false ↦ word_byte r b ] ]

-- any byte: a newline (10) ends the line; in a comment nothing else matters
unfoldable pub text_byte : Read → ℕ → Read
text_byte r b =
    elim (eqb b 10) [ true ↦ next_line (flush r) | false ↦ elim (in_comment r.mode) [ true ↦ onward comment r | false ↦ line_byte r b ] ]

-- nothing changes after a fault: q, where r has none
unfoldable pub unless_faulty : Read → Read → Read
unless_faulty r q = elim r.fault [ none ↦ q | some f ↦ r ]

unfoldable pub step : Read → ℕ → Read
step r b = unless_faulty r (text_byte r b)

unfoldable pub read_on : Read → List ℕ → Read
read_on r [] = r
read_on r (b ∷ bs) = read_on (step r b) bs

-- the text is over: the last word is done; a text without any word is a fault, where it ends
unfoldable pub worded : Read → Read
worded r = elim r.words [ [] ↦ faulty nothing r | w ∷ ws ↦ r ]

unfoldable pub ended : Read → Read
ended r = unless_faulty r (worded (flush r))

-- a text's words, which count where it has no fault
unfoldable pub read_words : List ℕ → Read
read_words bs = ended (read_on start bs)
