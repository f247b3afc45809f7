-- The starred cases, as one statement by computation. Assumes nothing.
use mathlib.Core.Path.{◌≡◌, refl}
use mathlib.Core.List.{List, map}
use Prim.Native.Nat.{ℕ}
use Rattle.records.specs.Bytes.{le64}
use Rattle.records.specs.Leaf.{leaf_of, read_leaf}
use Rattle.records.specs.Descriptor.{limits_of, stage1_of, stage2_of}
use Rattle.records.specs.Setup.{words_of, control_of, setup_from, setup_of, read_setup}
use Rattle.rights.specs.Direct.{ap, direct_steps}
use Rattle.rights.specs.Checks.{setup_check, access_check, leaf_check}
use Rattle.rights.specs.Stage1.{base_rights, base_cause, base_answer, stage1_answer}
use Rattle.rights.specs.Order.{stages_answer, rights_answer}
use Rattle.rights.specs.Stage2.{xn_px, xn_ux, stage2_rights, stage2_cause, stage2_answer}
use Rattle.attributes.specs.Combine.{combine, result_of, result_byte}
use Rattle.attributes.specs.Mair.{mair_byte, off_byte, stage1_byte, reserved_byte}
use Rattle.attributes.specs.Order.{memory_of, check_of, attributes_of}
use Rattle.attributes.specs.Shareability.{reserved_sh, stage1_sh, stage2_sh, combined_sh, result_sh}
use Rattle.attributes.specs.StageTwoType.{mem_attr_of, reserved_mem_attr}
use Rattle.judge.specs.Cases.{Case, setup_bytes, leaf_bytes, starred, mair}
use Rattle.judge.specs.Judge.{judged, judge_of}
use Rattle.judge.specs.LeafRights.{leaf_rights}
use Rattle.std.specs.Prelude.{Ok}
use Rattle.judge.specs.Answers.{LeafRights}
use Rattle.judge.specs.Answers.{Judgement}

-- the judge's answer to a case, and its leaf's rights where the table has them
abbrev answered : Case → Judgement × List LeafRights
answered c =
    let s = setup_bytes c.control mair in
    let f = leaf_bytes c.stage1 c.stage2 c.limits in
    (judge_of s f c.access, map (λ (n : ℕ). leaf_rights (setup_of s) (leaf_of f)) c.rights)

pub starred-cases : map answered starred ≡ map (λ (c : Case). (c.answer, map Ok c.rights)) starred
unfolding judge_of leaf_rights judged read_setup setup_of setup_from words_of control_of le64 read_leaf leaf_of limits_of stage1_of stage2_of base_answer ap direct_steps base_rights base_cause setup_check access_check leaf_check stage1_answer stages_answer rights_answer xn_px xn_ux stage2_rights stage2_cause stage2_answer combine result_of result_byte mair_byte off_byte stage1_byte reserved_byte memory_of check_of attributes_of reserved_sh stage1_sh stage2_sh combined_sh result_sh mem_attr_of reserved_mem_attr
starred-cases = refl
