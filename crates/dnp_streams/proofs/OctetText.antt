-- Digits and octets: each spelling has one reading, and none has a space in it.
use Rattle.std.proofs.Common.{◌≡◌, ◌≢◌, ℕ, ◌/◌, ◌%◌, ◌<◌, arith}
use Rattle.std.specs.Char.{to_ascii_uppercase}
use Rattle.std.proofs.lemmas.Bool.Decides.{nat_tests}
use Rattle.dnp_streams.specs.OctetLines.{digit, octet_text}

-- two numbers with one digit are the same
digit_same : (a b : ℕ) → a < 16 → b < 16 → digit a ≡ digit b → a ≡ b
digit_same a b a_small b_small same = grind (arith, nat_tests)

-- two octets with one text are the same
pub octet_same : (a b : ℕ) → a < 256 → b < 256 → octet_text a ≡ octet_text b → a ≡ b
octet_same a b a_small b_small same =
    let first : digit (a / 16) ≡ digit (b / 16) = cc in
    let second : digit (a % 16) ≡ digit (b % 16) = cc in
    let high : a / 16 ≡ b / 16 = digit_same (a / 16) (b / 16) (omega arith) (omega arith) first in
    let low : a % 16 ≡ b % 16 = digit_same (a % 16) (b % 16) (omega arith) (omega arith) second in
    omega arith

-- no digit is a space
pub digit_not_space : (n : ℕ) → digit n ≢ 32
digit_not_space n is = grind (arith, nat_tests)

-- the capital of a character is a space only where the character is one
pub space_from_capital : (c : ℕ) → to_ascii_uppercase c ≡ 32 → c ≡ 32
space_from_capital c is = grind (arith, nat_tests)
