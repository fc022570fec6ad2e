-- The Rust's lexemes as numbers: a number word is its value, every other word and mark has a code from 100 on in the order of
-- the Rust's enum, and the literal n of k digits is NUM * k + n. No lexeme is 0: that stands for what is past the end.
use Rattle.std.specs.Prelude.{ℕ, ◌/◌, ◌%◌}

-- `Lexeme::One`
abbrev pub One : ℕ
One = 1

-- `Lexeme::Two`
abbrev pub Two : ℕ
Two = 2

-- `Lexeme::Three`
abbrev pub Three : ℕ
Three = 3

-- `Lexeme::Four`
abbrev pub Four : ℕ
Four = 4

-- `Lexeme::Five`
abbrev pub Five : ℕ
Five = 5

-- `Lexeme::Six`
abbrev pub Six : ℕ
Six = 6

-- `Lexeme::Seven`
abbrev pub Seven : ℕ
Seven = 7

-- `Lexeme::Eight`
abbrev pub Eight : ℕ
Eight = 8

-- `Lexeme::Nine`
abbrev pub Nine : ℕ
Nine = 9

-- `Lexeme::Ten`
abbrev pub Ten : ℕ
Ten = 10

-- `Lexeme::Eleven`
abbrev pub Eleven : ℕ
Eleven = 11

-- `Lexeme::Twelve`
abbrev pub Twelve : ℕ
Twelve = 12

-- `Lexeme::Thirteen`
abbrev pub Thirteen : ℕ
Thirteen = 13

-- `Lexeme::Fourteen`
abbrev pub Fourteen : ℕ
Fourteen = 14

-- `Lexeme::Fifteen`
abbrev pub Fifteen : ℕ
Fifteen = 15

-- `Lexeme::Sixteen`
abbrev pub Sixteen : ℕ
Sixteen = 16

-- `Lexeme::Seventeen`
abbrev pub Seventeen : ℕ
Seventeen = 17

-- `Lexeme::Eighteen`
abbrev pub Eighteen : ℕ
Eighteen = 18

-- `Lexeme::Nineteen`
abbrev pub Nineteen : ℕ
Nineteen = 19

-- `Lexeme::Twenty`
abbrev pub Twenty : ℕ
Twenty = 20

-- `Lexeme::Thirty`
abbrev pub Thirty : ℕ
Thirty = 30

-- `Lexeme::Fourty`
abbrev pub Fourty : ℕ
Fourty = 40

-- `Lexeme::Fifty`
abbrev pub Fifty : ℕ
Fifty = 50

-- `Lexeme::Sixty`
abbrev pub Sixty : ℕ
Sixty = 60

-- `Lexeme::Seventy`
abbrev pub Seventy : ℕ
Seventy = 70

-- `Lexeme::Eighty`
abbrev pub Eighty : ℕ
Eighty = 80

-- `Lexeme::Ninety`
abbrev pub Ninety : ℕ
Ninety = 90

-- `Lexeme::A`
abbrev pub A : ℕ
A = 100

-- `Lexeme::An`
abbrev pub An : ℕ
An = 101

-- `Lexeme::On`
abbrev pub On : ℕ
On = 102

-- `Lexeme::In`
abbrev pub In : ℕ
In = 103

-- `Lexeme::At`
abbrev pub At : ℕ
At = 104

-- `Lexeme::The`
abbrev pub The : ℕ
The = 105

-- `Lexeme::Dash`
abbrev pub Dash : ℕ
Dash = 106

-- `Lexeme::Today`
abbrev pub Today : ℕ
Today = 107

-- `Lexeme::Tomorrow`
abbrev pub Tomorrow : ℕ
Tomorrow = 108

-- `Lexeme::Yesterday`
abbrev pub Yesterday : ℕ
Yesterday = 109

-- `Lexeme::From`
abbrev pub From : ℕ
From = 110

-- `Lexeme::Now`
abbrev pub Now : ℕ
Now = 111

-- `Lexeme::And`
abbrev pub And : ℕ
And = 112

-- `Lexeme::Comma`
abbrev pub Comma : ℕ
Comma = 113

-- `Lexeme::Colon`
abbrev pub Colon : ℕ
Colon = 114

-- `Lexeme::Dot`
abbrev pub Dot : ℕ
Dot = 115

-- `Lexeme::After`
abbrev pub After : ℕ
After = 116

-- `Lexeme::This`
abbrev pub This : ℕ
This = 117

-- `Lexeme::Next`
abbrev pub Next : ℕ
Next = 118

-- `Lexeme::Monday`
abbrev pub Monday : ℕ
Monday = 119

-- `Lexeme::Tuesday`
abbrev pub Tuesday : ℕ
Tuesday = 120

-- `Lexeme::Wednesday`
abbrev pub Wednesday : ℕ
Wednesday = 121

-- `Lexeme::Thursday`
abbrev pub Thursday : ℕ
Thursday = 122

-- `Lexeme::Friday`
abbrev pub Friday : ℕ
Friday = 123

-- `Lexeme::Saturday`
abbrev pub Saturday : ℕ
Saturday = 124

-- `Lexeme::Sunday`
abbrev pub Sunday : ℕ
Sunday = 125

-- `Lexeme::January`
abbrev pub January : ℕ
January = 126

-- `Lexeme::February`
abbrev pub February : ℕ
February = 127

-- `Lexeme::March`
abbrev pub March : ℕ
March = 128

-- `Lexeme::April`
abbrev pub April : ℕ
April = 129

-- `Lexeme::May`
abbrev pub May : ℕ
May = 130

-- `Lexeme::June`
abbrev pub June : ℕ
June = 131

-- `Lexeme::July`
abbrev pub July : ℕ
July = 132

-- `Lexeme::August`
abbrev pub August : ℕ
August = 133

-- `Lexeme::September`
abbrev pub September : ℕ
September = 134

-- `Lexeme::October`
abbrev pub October : ℕ
October = 135

-- `Lexeme::November`
abbrev pub November : ℕ
November = 136

-- `Lexeme::December`
abbrev pub December : ℕ
December = 137

-- `Lexeme::AM`
abbrev pub AM : ℕ
AM = 138

-- `Lexeme::PM`
abbrev pub PM : ℕ
PM = 139

-- `Lexeme::Day`
abbrev pub Day : ℕ
Day = 140

-- `Lexeme::Week`
abbrev pub Week : ℕ
Week = 141

-- `Lexeme::Hour`
abbrev pub Hour : ℕ
Hour = 142

-- `Lexeme::Minute`
abbrev pub Minute : ℕ
Minute = 143

-- `Lexeme::Month`
abbrev pub Month : ℕ
Month = 144

-- `Lexeme::Year`
abbrev pub Year : ℕ
Year = 145

-- `Lexeme::Slash`
abbrev pub Slash : ℕ
Slash = 146

-- `Lexeme::Before`
abbrev pub Before : ℕ
Before = 147

-- `Lexeme::Ago`
abbrev pub Ago : ℕ
Ago = 148

-- `Lexeme::Midnight`
abbrev pub Midnight : ℕ
Midnight = 149

-- `Lexeme::Noon`
abbrev pub Noon : ℕ
Noon = 150

-- `Lexeme::Zero`
abbrev pub Zero : ℕ
Zero = 151

-- `Lexeme::Hundred`
abbrev pub Hundred : ℕ
Hundred = 152

-- `Lexeme::Thousand`
abbrev pub Thousand : ℕ
Thousand = 153

-- `Lexeme::Million`
abbrev pub Million : ℕ
Million = 154

-- `Lexeme::Billion`
abbrev pub Billion : ℕ
Billion = 155

-- `Lexeme::Last`
abbrev pub Last : ℕ
Last = 156

-- `Lexeme::ST`
abbrev pub ST : ℕ
ST = 157

-- `Lexeme::ND`
abbrev pub ND : ℕ
ND = 158

-- `Lexeme::RD`
abbrev pub RD : ℕ
RD = 159

-- `Lexeme::TH`
abbrev pub TH : ℕ
TH = 160

-- `Lexeme::Num(n)`, written with k digits, is NUM * k + n: both are read off by division
abbrev pub NUM : ℕ
NUM = 4294967296

-- the n of a literal
abbrev pub value_of : ℕ → ℕ
value_of x = x % NUM

-- the digits of a literal's run, leading zeros counted; no other lexeme has any
abbrev pub digits_of : ℕ → ℕ
digits_of x = x / NUM
