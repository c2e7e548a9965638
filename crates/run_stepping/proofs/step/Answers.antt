use borrow.Author.Rules.{rules}
use Rattle.run_stepping.proofs.Arms.{NoneOf, by-end, by-return, called, exits, fell-off, for-call-element, for-call-word, for-module-element, for-module-word, handed-on}
use Rattle.run_stepping.proofs.Arms.{performed, step-inside, to-call-element, to-call-word, to-module-element, to-module-word, was_read, prints, writes, wrote, wrote_of}
use Rattle.run_stepping.proofs.step.Goals as goal

pub head-w-requires : goal.head-w-requires
head-w-requires c = search (rules, step-inside)

pub store-requires : goal.store-requires
store-requires c = search (rules, to-module-word)

pub store-requires-in-129 : goal.store-requires-in-129
store-requires-in-129 c = search (rules, to-call-word)

pub store_element-requires : goal.store_element-requires
store_element-requires c = search (rules, to-module-element)

pub store_element-requires-in-131 : goal.store_element-requires-in-131
store_element-requires-in-131 c = search (rules, to-call-element)

pub call_for-requires : goal.call_for-requires
call_for-requires c = search (rules, for-module-word)

pub call_for-requires-in-133 : goal.call_for-requires-in-133
call_for-requires-in-133 c = search (rules, for-call-word)

pub call_for_element-requires : goal.call_for_element-requires
call_for_element-requires c = search (rules, for-module-element)

pub call_for_element-requires-in-135 : goal.call_for_element-requires-in-135
call_for_element-requires-in-135 c = search (rules, for-call-element)

pub back-requires : goal.back-requires
back-requires c = search (rules, by-return)

pub write-requires : goal.write-requires
write-requires c = search (rules, writes)

pub write_of-requires : goal.write_of-requires
write_of-requires c = search (rules, prints)

pub read-requires : goal.read-requires
read-requires c = search (rules, prints)

pub back-requires-in-153 : goal.back-requires-in-153
back-requires-in-153 c = search (rules, by-end)

pub returns-in-128 : goal.returns-in-128
returns-in-128 c = search (rules, performed)

pub returns-in-129 : goal.returns-in-129
returns-in-129 c = search (rules, performed)

pub returns-in-130 : goal.returns-in-130
returns-in-130 c = search (rules, performed)

pub returns-in-131 : goal.returns-in-131
returns-in-131 c = search (rules, performed)

pub returns-in-132 : goal.returns-in-132
returns-in-132 c = search (rules, called)

pub returns-in-133 : goal.returns-in-133
returns-in-133 c = search (rules, called)

pub returns-in-134 : goal.returns-in-134
returns-in-134 c = search (rules, called)

pub returns-in-135 : goal.returns-in-135
returns-in-135 c = search (rules, called)

pub returns-in-136 : goal.returns-in-136
returns-in-136 c = search (rules, called)

pub returns-in-137 : goal.returns-in-137
returns-in-137 c = search (rules, performed)

pub returns-in-138 : goal.returns-in-138
returns-in-138 c = search (rules, performed)

pub returns-in-139 : goal.returns-in-139
returns-in-139 c = search (rules, performed)

pub returns-in-140 : goal.returns-in-140
returns-in-140 c = search (rules, handed-on)

pub returns-in-141 : goal.returns-in-141
returns-in-141 c = search (rules, exits)

pub returns-in-142 : goal.returns-in-142
returns-in-142 c = search (rules, performed)

pub returns-in-143 : goal.returns-in-143
returns-in-143 c = search (rules, performed)

pub returns-in-144 : goal.returns-in-144
returns-in-144 c = search (rules, wrote)

pub returns-in-145 : goal.returns-in-145
returns-in-145 c = search (rules, wrote_of)

pub returns-in-146 : goal.returns-in-146
returns-in-146 c = search (rules, was_read)

pub returns-in-147 : goal.returns-in-147
returns-in-147 c = search (rules, performed)

pub returns-in-148 : goal.returns-in-148
returns-in-148 c = search (rules, performed)

pub returns-in-149 : goal.returns-in-149
returns-in-149 c = search (rules, performed)

pub returns-in-150 : goal.returns-in-150
returns-in-150 c = search (rules, performed)

pub returns-in-151 : goal.returns-in-151
returns-in-151 c = search (rules, performed)

pub returns-in-152 : goal.returns-in-152
returns-in-152 c = search (rules, performed)

pub returns-in-153 : goal.returns-in-153
returns-in-153 c = search (rules, performed)

pub returns-in_default : goal.returns-in_default
unfolding NoneOf
returns-in_default c =
    fell-off _ _ _ _ _ _ _ c.requires _ c.head-w.ensures (search rules) _
