-- The Rust's `KEYWORDS`, in the order of its `map.insert` lines, and the words of each reading. Assumes nothing.
use Rattle.std.specs.Prelude.{ℕ, cond, List, [], ◌∷◌, ◌++◌, map}
use Rattle.digits.specs.Bytes.{bytes_of}
use Rattle.lexer.specs.Lexemes.{A, An, The, On, At, In, And, From, After, Before, Ago, Last, This, Next}
use Rattle.lexer.specs.Lexemes.{Monday, Tuesday, Wednesday, Thursday, Friday, Saturday, Sunday}
use Rattle.lexer.specs.Lexemes.{January, February, March, April, May, June, July, August, September, October, November, December}
use Rattle.lexer.specs.Lexemes.{Day, Week, Month, Year, Hour, Minute}
use Rattle.lexer.specs.Lexemes.{Today, Tomorrow, Yesterday, Now, Midnight, Noon, AM, PM}
use Rattle.lexer.specs.Lexemes.{Zero, One, Two, Three, Four, Five, Six, Seven, Eight, Nine}
use Rattle.lexer.specs.Lexemes.{Ten, Eleven, Twelve, Thirteen, Fourteen, Fifteen, Sixteen, Seventeen, Eighteen, Nineteen}
use Rattle.lexer.specs.Lexemes.{Twenty, Thirty, Fourty, Fifty, Sixty, Seventy, Eighty, Ninety, Hundred, Thousand, Million, Billion}
use Rattle.lexer.specs.Lexemes.{ST, ND, RD, TH}
use Rattle.lexer.specs.Words.{Word, word, ordered, is_same}
use Rattle.lexer.specs.declared.reading.Reading.{Reading}
use Rattle.lexer.specs.declared.reading.Reading.TheVariants.{First, Second}

-- the 133 words, each with the lexeme that it gives
unfoldable pub keywords : List Word
keywords =
    word "on" On ∷
    word "at" At ∷
    word "an" An ∷
    word "in" In ∷
    word "after" After ∷
    word "last" Last ∷
    word "this" This ∷
    word "next" Next ∷
    word "monday" Monday ∷
    word "tuesday" Tuesday ∷
    word "wednesday" Wednesday ∷
    word "thursday" Thursday ∷
    word "friday" Friday ∷
    word "saturday" Saturday ∷
    word "sunday" Sunday ∷
    word "january" January ∷
    word "february" February ∷
    word "march" March ∷
    word "april" April ∷
    word "may" May ∷
    word "june" June ∷
    word "july" July ∷
    word "august" August ∷
    word "september" September ∷
    word "october" October ∷
    word "november" November ∷
    word "december" December ∷
    word "jan" January ∷
    word "feb" February ∷
    word "mar" March ∷
    word "apr" April ∷
    word "jun" June ∷
    word "jul" July ∷
    word "aug" August ∷
    word "sep" September ∷
    word "oct" October ∷
    word "nov" November ∷
    word "dec" December ∷
    word "am" AM ∷
    word "pm" PM ∷
    word "day" Day ∷
    word "days" Day ∷
    word "week" Week ∷
    word "weeks" Week ∷
    word "month" Month ∷
    word "months" Month ∷
    word "year" Year ∷
    word "years" Year ∷
    word "hour" Hour ∷
    word "hours" Hour ∷
    word "min" Minute ∷
    word "mins" Minute ∷
    word "minute" Minute ∷
    word "minutes" Minute ∷
    word "and" And ∷
    word "today" Today ∷
    word "tomorrow" Tomorrow ∷
    word "yesterday" Yesterday ∷
    word "now" Now ∷
    word "from" From ∷
    word "zero" Zero ∷
    word "one" One ∷
    word "two" Two ∷
    word "three" Three ∷
    word "four" Four ∷
    word "five" Five ∷
    word "six" Six ∷
    word "seven" Seven ∷
    word "eight" Eight ∷
    word "nine" Nine ∷
    word "ten" Ten ∷
    word "eleven" Eleven ∷
    word "twelve" Twelve ∷
    word "thirteen" Thirteen ∷
    word "fourteen" Fourteen ∷
    word "fifteen" Fifteen ∷
    word "sixteen" Sixteen ∷
    word "seventeen" Seventeen ∷
    word "eighteen" Eighteen ∷
    word "nineteen" Nineteen ∷
    word "twenty" Twenty ∷
    word "thirty" Thirty ∷
    word "fourty" Fourty ∷
    word "fifty" Fifty ∷
    word "sixty" Sixty ∷
    word "seventy" Seventy ∷
    word "eighty" Eighty ∷
    word "ninety" Ninety ∷
    word "hundred" Hundred ∷
    word "thousand" Thousand ∷
    word "million" Million ∷
    word "billion" Billion ∷
    word "first" One ∷
    word "second" Two ∷
    word "third" Three ∷
    word "fourth" Four ∷
    word "fifth" Five ∷
    word "sixth" Six ∷
    word "seventh" Seven ∷
    word "eigth" Eight ∷
    word "ninth" Nine ∷
    word "tenth" Ten ∷
    word "eleventh" Eleven ∷
    word "twelfth" Twelve ∷
    word "thirteenth" Thirteen ∷
    word "fourteenth" Fourteen ∷
    word "fifteenth" Fifteen ∷
    word "sixteenth" Sixteen ∷
    word "seventeenth" Seventeen ∷
    word "eighteenth" Eighteen ∷
    word "nineteenth" Nineteen ∷
    word "twentieth" Twenty ∷
    word "thirtieth" Thirty ∷
    word "fourtieth" Fourty ∷
    word "fiftieth" Fifty ∷
    word "sixtieth" Sixty ∷
    word "seventieth" Seventy ∷
    word "eightieth" Eighty ∷
    word "ninetieth" Ninety ∷
    word "hundredth" Hundred ∷
    word "thousandth" Thousand ∷
    word "millionth" Million ∷
    word "billionth" Billion ∷
    word "before" Before ∷
    word "ago" Ago ∷
    word "midnight" Midnight ∷
    word "noon" Noon ∷
    word "a" A ∷
    word "the" The ∷
    word "nd" ND ∷
    word "st" ST ∷
    word "rd" RD ∷
    word "th" RD ∷
    []

-- "th" gives `TH`, and every other word is as it was
abbrev with_th : Word → Word
with_th w = record { spelling = w.spelling; lexeme = cond (is_same (ordered w.spelling (bytes_of "th"))) TH w.lexeme }

-- the words of a reading: the Rust's, or 136 made from them, with the usual spellings beside the Rust's
unfoldable pub words_in : Reading → List Word
words_in First = keywords
words_in Second = map with_th keywords ++ (word "forty" Fourty ∷ word "fortieth" Fourty ∷ word "eighth" Eight ∷ [])

-- how many they are
abbrev pub count_in : Reading → ℕ
count_in First = 133
count_in Second = 136
