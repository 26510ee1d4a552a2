mod PassingOn
