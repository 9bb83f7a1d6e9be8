use Rattle.std.proofs.Common.{◌≡◌, ◌+◌, ◌-◌, ◌<◌, ◌^◌, ◌++◌, length, take, min}
use Rattle.std.specs.List.{flat_map}
use Rattle.dnp_trace.specs.declared.phrase.TheConstants.{NAMED}
use Rattle.dnp_trace.specs.Phrases.{header_phrase}
use Rattle.dnp_trace.proofs.phrase.say_headers.Given as goal

-- what is said and the headers that are still named; how many are left over
abbrev pub invariant-loop-header : goal.invariant-loop-header
invariant-loop-header l = record {
  named :
      (l.sheet ++ flat_map header_phrase (take l.room l.header-iterator.headers))
      ≡ (l.initial.sheet ++ flat_map header_phrase (take NAMED l.initial.header-iterator.headers));
  over :
      min (l.left + (length l.header-iterator.headers - l.room)) (2 ^ 64 - 1)
      ≡ min (length l.initial.header-iterator.headers - NAMED) (2 ^ 64 - 1);
  fits : l.left < 2 ^ 64;
}
