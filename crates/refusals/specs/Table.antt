-- The paper's table of refusal numbers, 1 to 13 "tested in this order", and those that the requests add.
use Rattle.std.specs.Prelude.{ℕ}
use Rattle.refusals.specs.declared.Reason.{Reason}
use Rattle.refusals.specs.declared.Reason.TheVariants.{TooLong, Unknown, LargeDigits, TooMany, Nothing, LargeSum, LeftOver, InvalidMoment, NoSense, NoDate, NoTime, Outside, NoLeapDay, NoStamp, NoReading, NotWhole, NoRoom, NoRule, NoStart, NoNext, NoZone, PastLast, NoInstant, FullBoard, EmptySlot, NothingDue}

-- a reason's number
abbrev pub number_of : Reason → ℕ
-- "phrase longer than 256 bytes"
number_of TooLong = 1
-- "a word that is no keyword, or a byte with no meaning"
number_of Unknown = 2
-- "a digit run above 4,294,967,295"
number_of LargeDigits = 3
-- "a 65th lexeme"
number_of TooMany = 4
-- "`DateTime::parse` reads nothing"
number_of Nothing = 5
-- "a sum or product in a number passes 4,294,967,295"
number_of LargeSum = 6
-- "lexemes are left after the reading"
number_of LeftOver = 7
-- "now is no date and time in years 1 to 9999"
number_of InvalidMoment = 8
-- "the reading or step list has no sense"
number_of NoSense = 9
-- "no such month or day"
number_of NoDate = 10
-- "no such time of day"
number_of NoTime = 11
-- "a moment outside years 1 to 9999"
number_of Outside = 12
-- "a year step from 29 February into a common year"
number_of NoLeapDay = 13
-- "any other form or an impossible date, time or offset"; in writing "an offset out of range"
number_of NoStamp = 14
-- "15 for any other reading number, before 1"
number_of NoReading = 15
-- "16 when second or millisecond isn't 0"
number_of NotWhole = 16
-- "a buffer too short"
number_of NoRoom = 17
-- "18 for a rule outside this"
number_of NoRule = 18
-- "19 for a start that doesn't match or lies past UNTIL"
number_of NoStart = 19
-- "20 exactly if no occurrence in years 1 to 9999 is at or after the moment"
number_of NoNext = 20
-- "21 for the file"
number_of NoZone = 21
-- "22 for a moment at or past the last transition"
number_of PastLast = 22
-- "23 for a time that doesn't occur"
number_of NoInstant = 23
-- "24 for a full board"
number_of FullBoard = 24
-- "25 for a slot that holds nothing"
number_of EmptySlot = 25
-- "26 when no entry has a moment"
number_of NothingDue = 26
