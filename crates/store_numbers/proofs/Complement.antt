-- A number of 32 bits is one of 64.
use native.Mathlib.Omega.{arith}
use lib.IntN.{ℤ}
use mir.Syntax.{w32, w64}
use mir.Val.{SFits}

pub widened : (z : ℤ) → SFits w32 z → SFits w64 z
widened z s = record { sfits = omega (arith, s.sfits) }
