-- Examples of what program `business_day` prints, from its bytes to its line. Assumes nothing.
use Rattle.std.specs.Prelude.{◌≡◌, [], ◌∷◌, ◌++◌}
use Rattle.fields.specs.Text.{text}
use Rattle.holidays.specs.DayLine.{day_line, day_of}

pub record Examples : Type 0 where
  -- 20171113 is a Monday: three business days on, without holidays, with one among them, and over a weekend
  pub further : day_line (day_of (text "20171113") (text "3") []) ≡ text "20171116" ++ (10 ∷ [])
  pub over_holiday : day_line (day_of (text "20171113") (text "3") (text "20171115" ++ (10 ∷ []) ++ text "20171123")) ≡ text "20171117" ++ (10 ∷ [])
  pub over_weekend : day_line (day_of (text "20171115") (text "3") (text "20171115" ++ (10 ∷ []))) ≡ text "20171120" ++ (10 ∷ [])
  -- "so 0 gives the start itself", a Sunday too
  pub start : day_line (day_of (text "20171112") (text "0") []) ≡ text "20171112" ++ (10 ∷ [])
  -- no digit
  pub no_digit : day_line (day_of (text "20171113") (text "x") []) ≡ text "stopped,2" ++ (10 ∷ [])
  -- a line that is no date
  pub no_date : day_line (day_of (text "20171113") (text "3") (text "20171115" ++ (10 ∷ []) ++ text "2017112")) ≡ text "stopped,14" ++ (10 ∷ [])
  -- no such day up to 29991231
  pub no_day : day_line (day_of (text "29991230") (text "2") []) ≡ text "stopped,15" ++ (10 ∷ [])
