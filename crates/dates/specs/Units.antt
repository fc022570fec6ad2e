-- The readers of one lexeme: `Article`, `Unit`, `Month`, `Weekday`, `RelativeSpecifier`.
use Rattle.std.specs.Prelude.{ℕ, ◌+◌, ◌-◌, Bool, ◌||◌, List, eqb}
use Rattle.lexer.specs.Lexemes as lexeme
use Rattle.numbers.specs.Slices.{get, within}
use Rattle.dates.specs.Parsed.{Parsed, is, nothing, pick}
use Rattle.dates.specs.declared.units.Unit.{Unit}
use Rattle.dates.specs.declared.units.Unit.TheVariants.{Day, Week, Hour, Minute, Month, Year}
use Rattle.dates.specs.declared.units.RelativeSpecifier.{RelativeSpecifier}
use Rattle.dates.specs.declared.units.RelativeSpecifier.TheVariants.{This, Next, Last}

-- `Article::parse`: whether there is one. Which of the three it is is never looked at
unfoldable pub is_article : List ℕ → Bool
is_article l = eqb (get l 0) lexeme.A || (eqb (get l 0) lexeme.An || eqb (get l 0) lexeme.The)

-- `Unit::parse`
unfoldable pub unit_of : List ℕ → Parsed Unit
unit_of l =
    pick (eqb (get l 0) lexeme.Day) (is Day 1)
    (pick (eqb (get l 0) lexeme.Week) (is Week 1)
    (pick (eqb (get l 0) lexeme.Month) (is Month 1)
    (pick (eqb (get l 0) lexeme.Year) (is Year 1)
    (pick (eqb (get l 0) lexeme.Minute) (is Minute 1)
    (pick (eqb (get l 0) lexeme.Hour) (is Hour 1)
    nothing)))))

-- `Month::parse`: January is 1, and the codes of the months follow one another
unfoldable pub month_of : List ℕ → Parsed ℕ
month_of l = pick (within lexeme.January (get l 0) lexeme.December) (is (get l 0 - lexeme.January + 1) 1) nothing

-- `Weekday::parse`: Monday is 0, and the codes of the weekdays follow one another
unfoldable pub weekday_of : List ℕ → Parsed ℕ
weekday_of l = pick (within lexeme.Monday (get l 0) lexeme.Sunday) (is (get l 0 - lexeme.Monday) 1) nothing

-- `RelativeSpecifier::parse`
unfoldable pub relative_specifier_of : List ℕ → Parsed RelativeSpecifier
relative_specifier_of l =
    pick (eqb (get l 0) lexeme.This) (is This 1)
    (pick (eqb (get l 0) lexeme.Next) (is Next 1)
    (pick (eqb (get l 0) lexeme.Last) (is Last 1)
    nothing))
