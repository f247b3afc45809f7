-- Document 01, 'Numbers for no' 1 to 5. Assumes nothing.
use Rattle.std.specs.Prelude.{ℕ, Bool, cond, not, ◌&&◌, ◌||◌, leb, ltb, eqb, Result, Ok, Err}
use Rattle.records.specs.Access.{access_at}
use Rattle.records.specs.Values.{check_if, check_then}
use Rattle.records.specs.declared.access.Level.TheVariants.{Privileged, Unprivileged}
use Rattle.records.specs.declared.leaf.Leaf.{Leaf}
use Rattle.records.specs.declared.setup.Control.{Control}
use Rattle.records.specs.declared.refusal.Refusal.{Refusal}
use Rattle.records.specs.declared.refusal.Refusal.TheVariants.{ControlBits, Clash, WxnOrPan, UnknownAccess, LeafBits}
use Rattle.records.specs.Values.{Check}
use Rattle.records.specs.declared.access.Access.{Access}
use Rattle.records.specs.declared.access.Level.{Level}

-- 2: two levels clear with stage 2, unprivileged overlay or PAN set; or DC with stage 1 on or stage 2 off
abbrev pub clash : Control → Bool
clash c =
    not c.two && (c.stage2 || c.overlay.unprivileged || c.pan)
    || c.dc && (c.stage1 || not c.stage2)

-- 3: stage 1 on, WXN or PAN set, and Indirect or an overlay set
abbrev pub unjudged : Control → Bool
unjudged c =
    c.stage1 && (c.wxn || c.pan) && (c.indirect || c.overlay.privileged || c.overlay.unprivileged)

-- 1, 2, 3. 1: a control bit above 12 is set
unfoldable pub setup_check : Control → Check
setup_check c = check_then (check_if c.above ControlBits) (check_then (check_if (clash c) Clash) (check_if (unjudged c) WxnOrPan))

-- 4: access above 5, or above 2 with one level
unfoldable pub access_check : Bool → ℕ → Result Access Refusal
access_check two n = cond (leb n (cond two 5 2)) (Ok (access_at n)) (Err UnknownAccess)

-- 4: planner level above 1. 0 is privileged, 1 unprivileged
unfoldable pub level_check : ℕ → Result Level Refusal
level_check n = cond (leb n 1) (Ok (cond (eqb n 0) Privileged Unprivileged)) (Err UnknownAccess)

-- 5: limits above 15 or forbidden above 63
unfoldable pub leaf_check : Leaf → Check
leaf_check f = check_if (ltb 15 f.limits || ltb 63 f.forbidden) LeafBits
