-- Definition: the groups of objects by number and name (IEEE Std 1815-2012, annex A).
use Rattle.std.specs.Prelude.{ℕ, Bool, ◌==◌, List, [], ◌∷◌, codes, Option, find}
use Rattle.std.specs.Option.{option_map}

pub record Group : Type 0 where
  pub number : ℕ
  pub name : List ℕ

abbrev pub group : ℕ → List ℕ → Group
group number name = record { number = number; name = name }

-- all of them
unfoldable pub groups : List Group
groups =
    group 0 (codes "device attribute")
    ∷ group 1 (codes "binary input")
    ∷ group 2 (codes "binary input event")
    ∷ group 3 (codes "double-bit binary input")
    ∷ group 4 (codes "double-bit binary input event")
    ∷ group 10 (codes "binary output")
    ∷ group 11 (codes "binary output event")
    ∷ group 12 (codes "binary output command")
    ∷ group 13 (codes "binary output command event")
    ∷ group 20 (codes "counter")
    ∷ group 21 (codes "frozen counter")
    ∷ group 22 (codes "counter event")
    ∷ group 23 (codes "frozen counter event")
    ∷ group 30 (codes "analog input")
    ∷ group 31 (codes "frozen analog input")
    ∷ group 32 (codes "analog input event")
    ∷ group 33 (codes "frozen analog input event")
    ∷ group 34 (codes "analog input reporting deadband")
    ∷ group 40 (codes "analog output status")
    ∷ group 41 (codes "analog output")
    ∷ group 42 (codes "analog output event")
    ∷ group 43 (codes "analog output command event")
    ∷ group 50 (codes "time and date")
    ∷ group 51 (codes "time and date common time-of-occurrence")
    ∷ group 52 (codes "time delay")
    ∷ group 60 (codes "class objects")
    ∷ group 70 (codes "file control")
    ∷ group 80 (codes "internal indications")
    ∷ group 81 (codes "device storage")
    ∷ group 82 (codes "device profile")
    ∷ group 83 (codes "data set registration")
    ∷ group 85 (codes "data set prototype")
    ∷ group 86 (codes "data set descriptor")
    ∷ group 87 (codes "data set")
    ∷ group 88 (codes "data set event")
    ∷ group 90 (codes "application")
    ∷ group 91 (codes "status of requested operation")
    ∷ group 101 (codes "binary-coded decimal integer")
    ∷ group 102 (codes "unsigned integer")
    ∷ group 110 (codes "octet string")
    ∷ group 111 (codes "octet string event")
    ∷ group 112 (codes "virtual terminal output block")
    ∷ group 113 (codes "virtual terminal event data")
    ∷ group 120 (codes "authentication")
    ∷ group 121 (codes "security statistic")
    ∷ group 122 (codes "security statistic event")
    ∷ []

-- the name of a group, if it is one
unfoldable pub group_name : ℕ → Option (List ℕ)
group_name number = option_map (λ g. g.name) (find (λ g. g.number == number) groups)
