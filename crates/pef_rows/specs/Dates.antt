-- Dates of the classic Mac OS (dateTimeStamp of PEFContainerHeader): seconds since the first of January 1904. A number of
-- 32 bits ends in 2040, so every fourth year is a leap year.
use Rattle.std.specs.Prelude.{ℕ, ◌+◌, ◌-◌, ◌*◌, ◌/◌, ◌%◌, Bool, List, [], ◌∷◌, ◌++◌, codes, decimal, nat_lt, if◌then◌else◌}

-- two decimal digits
abbrev pub two_digits : ℕ → List ℕ
two_digits n = (48 + n / 10 % 10) ∷ (48 + n % 10) ∷ []

-- the year of the four from a leap year on that has a day, counted from 0, and the day's number in it
abbrev pub year_in_four : ℕ → ℕ × ℕ
year_in_four day = if nat_lt day 366 then (0, day) else (1 + (day - 366) / 365, (day - 366) % 365)

-- the lengths of the months, in a leap year or not
abbrev pub months : Bool → List ℕ
months leap = 31 ∷ (if leap then 29 else 28) ∷ 31 ∷ 30 ∷ 31 ∷ 30 ∷ 31 ∷ 31 ∷ 30 ∷ 31 ∷ 30 ∷ 31 ∷ []

-- the month that has a day, among months of these lengths, and the day's number in it, both from 1
abbrev pub month_day : List ℕ → ℕ → ℕ → ℕ × ℕ
month_day [] month day = (month, day + 1)
month_day (len ∷ lengths) month day = if nat_lt day len then (month, day + 1) else month_day lengths (month + 1) (day - len)

abbrev pub in_year : ℕ × ℕ → ℕ × ℕ
in_year y = month_day (months (nat_lt y.0 1)) 1 y.1

-- a day, counted from the first of January 1904
unfoldable pub day_text : ℕ → List ℕ
day_text day =
    decimal (1904 + 4 * (day / 1461) + (year_in_four (day % 1461)).0)
    ++ codes "-" ++ two_digits (in_year (year_in_four (day % 1461))).0
    ++ codes "-" ++ two_digits (in_year (year_in_four (day % 1461))).1

-- a time of the day
unfoldable pub time_text : ℕ → List ℕ
time_text seconds =
    codes "T" ++ two_digits (seconds / 3600 % 24)
    ++ codes ":" ++ two_digits (seconds / 60 % 60)
    ++ codes ":" ++ two_digits (seconds % 60)

-- a date and a time, such as 1998-03-04T15:00:00
unfoldable pub date_text : ℕ → List ℕ
date_text seconds = day_text (seconds / 86400) ++ time_text seconds
